-- The number of each refusal of an output stream. Assumes nothing.
--   number   the number
use Rattle.std.specs.Prelude.{ℕ}
use Rattle.stream.specs.declared.error.StreamError.{StreamError}
use Rattle.stream.specs.declared.error.StreamError.TheVariants.{LastOperationFailed, Closed, Trap}
use Rattle.stream.specs.declared.error.Trap.TheVariants.{FlushPending, OverBudget, TooManyWrites, NoRoom}

abbrev pub number : StreamError → ℕ
number (Trap FlushPending) = 11
number (Trap OverBudget) = 12
number (Trap TooManyWrites) = 13
number (Trap NoRoom) = 14
number (LastOperationFailed f) = 20
number Closed = 21
