-- Calls with their answers, and the history that they make. Assumes nothing.
--   Pairs       an event is this call with this answer
--   Performed   a history is these calls with these answers, in order
use Rattle.std.specs.Prelude.{◌≡◌, List, [], ◌∷◌, ◌++◌}
use Rattle.promises.specs.Events.{Event, write, check, flush, cancel, turn, handle_write, handle_flush, handle_drop}
use Rattle.promises.specs.History.{History, start, ◌▷◌}
use Rattle.handles.specs.Calls.{CallView, writes, checks, flushes, cancels, turns, polls_write, polls_flush, drops}
use Rattle.calls.specs.declared.answer.Answer.{Answer}
use Rattle.calls.specs.declared.answer.Answer.TheVariants.{Write as Wrote, CheckWrite as Checked, Flush as Flushed, Cancel as Cancelled, Turn as Turned, PollWrite as PolledWrite, PollFlush as PolledFlush, DropHandle as Dropped}

pub record Both (P Q : Type 0) : Type 0 where
  pub call : P
  pub answer : Q

abbrev pub Pairs : CallView → Answer → Event → Type 0
Pairs c a (write bytes r) = Both (c ≡ writes bytes) (a ≡ Wrote r)
Pairs c a (check r) = Both (c ≡ checks) (a ≡ Checked r)
Pairs c a (flush r) = Both (c ≡ flushes) (a ≡ Flushed r)
Pairs c a cancel = Both (c ≡ cancels) (a ≡ Cancelled)
Pairs c a (turn word) = Both (c ≡ turns) (a ≡ Turned word)
Pairs c a (handle_write h bytes r) = Both (c ≡ polls_write h bytes) (a ≡ PolledWrite r)
Pairs c a (handle_flush h r) = Both (c ≡ polls_flush h) (a ≡ PolledFlush r)
Pairs c a (handle_drop h r) = Both (c ≡ drops h) (a ≡ Dropped r)

pub data Performed : List CallView → List Answer → History → Type 0 where
  none : Performed [] [] start
  more : {cs : List CallView} {as' : List Answer} {es : History} → Performed cs as' es → (c : CallView) (a : Answer) (e : Event) → Pairs c a e → Performed (cs ++ c ∷ []) (as' ++ a ∷ []) (es ▷ e)
