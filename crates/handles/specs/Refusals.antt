-- The number of each refusal of a shared stream. Assumes nothing.
--   lock_held_number, no_such_handle_number   of the question before a direct call, before a handle call
--   call_number     of a call: that of the question before it, or the stream's
--   direct_number   of a direct call
--   handle_number   of a handle call
use Rattle.std.specs.Prelude.{ℕ}
use Rattle.stream.specs.Refusals.{number}
use Rattle.handles.specs.declared.error.CallError.{CallError}
use Rattle.handles.specs.declared.error.CallError.TheVariants.{Refused, Stream}
use Rattle.handles.specs.declared.error.LockHeld.{LockHeld}
use Rattle.handles.specs.declared.error.NoSuchHandle.{NoSuchHandle}

abbrev pub lock_held_number : LockHeld → ℕ
lock_held_number refusal = 10

abbrev pub no_such_handle_number : NoSuchHandle → ℕ
no_such_handle_number refusal = 15

abbrev pub call_number : {R : Type 0} → (R → ℕ) → CallError R → ℕ
call_number refusal_number (Refused refusal) = refusal_number refusal
call_number refusal_number (Stream e) = number e

abbrev pub direct_number : CallError LockHeld → ℕ
direct_number e = call_number lock_held_number e

abbrev pub handle_number : CallError NoSuchHandle → ℕ
handle_number e = call_number no_such_handle_number e
