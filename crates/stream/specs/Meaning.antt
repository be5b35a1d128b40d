-- What an output stream means to its caller. Assumes nothing.
--   Meaning        faulted, closed, or open with a permit
--   permit         what check_write answers
--   ready          whether check_write would answer anything but 0
--   flush_answer   what flush answers: it never traps
--   Untouched      a refusal leaves the whole value as it was, but for a fault, which is taken away
use Rattle.std.specs.Prelude.{◌≡◌, ℕ, Bool, true, Ok, Err, Result, nat_lt}
use Rattle.writer.specs.declared.answer.Fault.{Fault}
use Rattle.stream.specs.declared.error.StreamError.{StreamError}
use Rattle.stream.specs.declared.error.StreamError.TheVariants.{LastOperationFailed, Closed, Trap}

pub data Meaning : Type 0 where
  faulted : Fault → Meaning
  closed : Meaning
  open_with : ℕ → Meaning

abbrev pub permit : Meaning → Result ℕ StreamError
permit (faulted f) = Err (LastOperationFailed f)
permit closed = Err Closed
permit (open_with n) = Ok n

abbrev pub not_zero : Result ℕ StreamError → Bool
not_zero (Ok n) = nat_lt 0 n
not_zero (Err e) = true

abbrev pub ready : Meaning → Bool
ready m = not_zero (permit m)

abbrev pub flush_answer : Meaning → Result (Unit {0}) StreamError
flush_answer (faulted f) = Err (LastOperationFailed f)
flush_answer closed = Err Closed
flush_answer (open_with n) = Ok tt

abbrev pub Untouched : {X S : Type 0} → Result X StreamError → S → S → Type 0
Untouched (Ok x) a b = Unit {0}
Untouched (Err (LastOperationFailed f)) a b = Unit {0}
Untouched (Err Closed) a b = b ≡ a
Untouched (Err (Trap e)) a b = b ≡ a
