-- One call of a shared worker stream: its answer, and everything that it leaves. Assumes nothing.
--   passed_on      the stream's own answer, its refusals too
--   direct         a direct call: refused while the lock has a holder, else the stream's own answer is passed on
--   direct_write, direct_flush, direct_check   the direct calls, over the members of any output stream
--   Gives          a call by its outcome: this answer, and this view left
--   Turns          a host turn: of the stream alone
--   Step           any call: one outcome, but for the writer in a host turn
--   free_budget, unfinished_count, handle_state   the questions, which change nothing
use Rattle.std.specs.Prelude.{◌≡◌, ℕ, List, [], ◌∷◌, length, Ok, Err, Result}
use Rattle.writer.specs.declared.answer.WriteAnswer.{WriteAnswer}
use Rattle.writer.specs.declared.answer.FlushAnswer.{FlushAnswer}
use Rattle.stream.specs.Meaning.{Meaning, permit, flush_answer}
use Rattle.worker_stream.specs.WorkerView.{WorkerView}
use Rattle.worker_stream.specs.WorkerCalls.{meaning, checked, accepts, wrote, flushed, cancel as stopped}
use Rattle.worker_stream.specs.WorkerTurn.{Turned}
use Rattle.stream.specs.declared.error.StreamError.{StreamError}
use Rattle.worker_stream.specs.declared.write_stream.job.Turn.{Turn}
use Rattle.handles.specs.Errors.{DirectError, lock_held}
use Rattle.handles.specs.declared.error.CallError.TheVariants.{Stream}
use Rattle.handles.specs.declared.handle.HandleState.{HandleState}
use Rattle.promises.specs.SharedView.{SharedView, handle, with_stream}
use Rattle.promises.specs.Polls.{Outcome, outcome, poll_write, poll_flush, drop_handle}
use Rattle.promises.specs.Events.{Event, write, check, flush, cancel, turn, handle_write, handle_flush, handle_drop}

abbrev pub passed_on : {X : Type 0} → Result X StreamError → Result X DirectError
passed_on (Ok x) = Ok x
passed_on (Err e) = Err (Stream e)

module _ {S : Type 0} where
  abbrev pub direct : {X : Type 0} → List ℕ → Result X StreamError → S → SharedView S → Outcome (Result X DirectError) S
  direct [] answer left s = outcome (passed_on answer) (with_stream left s)
  direct (holder ∷ line) answer left s = outcome (Err lock_held) s

  abbrev pub direct_write : (S → List ℕ → Result (Unit {0}) StreamError) → (S → List ℕ → S) → List ℕ → SharedView S → Outcome (Result (Unit {0}) DirectError) S
  direct_write accepts wrote bytes s = direct s.queue (accepts s.stream bytes) (wrote s.stream bytes) s

  abbrev pub direct_check : (S → Meaning) → (S → S) → SharedView S → Outcome (Result ℕ DirectError) S
  direct_check meaning checked s = direct s.queue (permit (meaning s.stream)) (checked s.stream) s

  abbrev pub direct_flush : (S → Meaning) → (S → S) → SharedView S → Outcome (Result (Unit {0}) DirectError) S
  direct_flush meaning flushed s = direct s.queue (flush_answer (meaning s.stream)) (flushed s.stream) s

  pub record Gives {R : Type 0} (o : Outcome R S) (r : R) (t : SharedView S) : Type 0 where
    pub told : r ≡ o.answer
    pub left : t ≡ o.left

module _ {V : Type 0} where
  abbrev pub free_budget : SharedView (WorkerView V) → ℕ
  free_budget s = s.stream.free

  abbrev pub unfinished_count : SharedView (WorkerView V) → ℕ
  unfinished_count s = length s.stream.unfinished

  abbrev pub handle_state : ℕ → SharedView (WorkerView V) → HandleState
  handle_state h s = (handle h s).state

module _ {V : Type 0} (writes : V → List ℕ → WriteAnswer → V → Type 0) (flushes : V → FlushAnswer → V → Type 0) where
  pub record Turns (s : SharedView (WorkerView V)) (word : Turn) (t : SharedView (WorkerView V)) : Type 0 where
    pub stream : Turned writes flushes s.stream word t.stream
    pub queue : t.queue ≡ s.queue
    pub handles : t.handles ≡ s.handles

  abbrev pub Step : SharedView (WorkerView V) → Event → SharedView (WorkerView V) → Type 0
  Step s (write bytes r) t = Gives (direct_write accepts wrote bytes s) r t
  Step s (check r) t = Gives (direct_check meaning checked s) r t
  Step s (flush r) t = Gives (direct_flush meaning flushed s) r t
  Step s cancel t = t ≡ with_stream (stopped s.stream) s
  Step s (turn word) t = Turns s word t
  Step s (handle_write h bytes r) t = Gives (poll_write meaning checked wrote h bytes s) r t
  Step s (handle_flush h r) t = Gives (poll_flush meaning checked flushed h s) r t
  Step s (handle_drop h r) t = Gives (drop_handle h s) r t
