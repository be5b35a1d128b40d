-- What a shared stream is. Assumes nothing.
--   shared_view    the view, over the view of the stream
--   state_answer   what the question for a handle's state answers: of a dropped one too, and 15 where there is no such handle
use Rattle.std.specs.Prelude.{ℕ, cond, length, Ok, Err, Result, nat_lt}
use Rattle.handles.specs.Errors.{HandleError, no_such_handle}
use Rattle.handles.specs.declared.handle.HandleState.{HandleState}
use Rattle.promises.specs.SharedView.{SharedView, handle}
use Rattle.shared.specs.declared.locked_async.stdout.AsyncStdoutStream.{AsyncStdoutStream}
use Rattle.shared.specs.PartsOf.{parts_view}

abbrev pub shared_view : {S V : Type 0} → (S → V) → AsyncStdoutStream S → SharedView V
shared_view view a = parts_view view a.parts

abbrev pub state_answer : {V : Type 0} → ℕ → SharedView V → Result HandleState HandleError
state_answer h s = cond (nat_lt h (length s.handles)) (Ok (handle h s).state) (Err no_such_handle)
