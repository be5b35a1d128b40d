-- The one way that each call of a shared stream goes over a planned memory writer. Assumes nothing.
use Rattle.std.proofs.Common.{◌≡◌, List, [], ◌∷◌, refl, subst}
use Rattle.promises.specs.Events.{Event, write, check, flush, cancel, turn, handle_write, handle_flush, handle_drop}
use Rattle.promises.specs.SharedView.{SharedView, with_stream}
use Rattle.promises.specs.Polls.{poll_write, poll_flush, drop_handle}
use Rattle.promises.specs.Steps.{direct_write, direct_check, direct_flush, Step}
use Rattle.worker_stream.specs.WorkerCalls.{meaning, checked, accepts, wrote, flushed, cancel as stopped}
use Rattle.worker_stream.specs.WorkerTurn.{work, Turned}
use Rattle.worked.specs.Shows.{Stream, writes, flushes}
use Rattle.worked.specs.Happens.{Happens}
use Rattle.worked.proofs.Turning.{does, does_so}

-- what an event leaves, and what is left to see of its answer
abbrev left_by : SharedView Stream → Event → SharedView Stream
left_by s (write bytes r) = (direct_write accepts wrote bytes s).left
left_by s (check r) = (direct_check meaning checked s).left
left_by s (flush r) = (direct_flush meaning flushed s).left
left_by s cancel = with_stream (stopped s.stream) s
left_by s (turn word) = with_stream (does (work s.stream) s.stream).view s
left_by s (handle_write h bytes r) = (poll_write meaning checked wrote h bytes s).left
left_by s (handle_flush h r) = (poll_flush meaning checked flushed h s).left
left_by s (handle_drop h r) = (drop_handle h s).left

abbrev Answers : SharedView Stream → Event → Type 0
Answers s (write bytes r) = r ≡ (direct_write accepts wrote bytes s).answer
Answers s (check r) = r ≡ (direct_check meaning checked s).answer
Answers s (flush r) = r ≡ (direct_flush meaning flushed s).answer
Answers s cancel = Unit {0}
Answers s (turn word) = (does (work s.stream) s.stream).word ≡ word
Answers s (handle_write h bytes r) = r ≡ (poll_write meaning checked wrote h bytes s).answer
Answers s (handle_flush h r) = r ≡ (poll_flush meaning checked flushed h s).answer
Answers s (handle_drop h r) = r ≡ (drop_handle h s).answer

abbrev pub Checks : SharedView Stream → List Event → Type 0
Checks s [] = Unit {0}
Checks s (e ∷ more) = Answers s e × Checks (left_by s e) more

steps : (s : SharedView Stream) (e : Event) → Answers s e → Step writes flushes s e (left_by s e)
steps s (write bytes r) a = record { told = a; left = refl }
steps s (check r) a = record { told = a; left = refl }
steps s (flush r) a = record { told = a; left = refl }
steps s cancel a = refl
steps s (turn word) a = record { stream = subst (λ w. Turned writes flushes s.stream w (does (work s.stream) s.stream).view) a (does_so (work s.stream) s.stream); queue = refl; handles = refl }
steps s (handle_write h bytes r) a = record { told = a; left = refl }
steps s (handle_flush h r) a = record { told = a; left = refl }
steps s (handle_drop h r) a = record { told = a; left = refl }

pub happened : (s : SharedView Stream) (es : List Event) → Checks s es → Happens s es
unfolding Happens
happened s [] c = tt
happened s (e ∷ more) (a, c) = (left_by s e, steps s e a, happened (left_by s e) more c)
