-- What a poll does with the stream while it owns the grant, by the stream's meaning. Assumes nothing.
--   Operated         this answer, or not yet, and this stream left
--   WriteOperation   a write of as many bytes as are permitted
--   StageOperation   a stage of a flush
use Rattle.std.specs.Prelude.{◌≡◌, ℕ, zero, suc, min, List, length, take, Ok, Err, Result}
use Rattle.stream.specs.Meaning.{Meaning, faulted, closed, open_with}
use Rattle.stream.specs.declared.error.StreamError.{StreamError}
use Rattle.stream.specs.declared.error.StreamError.TheVariants.{LastOperationFailed, Closed}
use Rattle.handles.specs.declared.handle.Poll.{Poll}
use Rattle.handles.specs.declared.handle.Poll.TheVariants.{Ready, Pending}

pub record Operated {X S : Type 0} (answer : Result (Poll X) StreamError) (left : S) (r : Result (Poll X) StreamError) (t : S) : Type 0 where
  pub told : r ≡ answer
  pub after : t ≡ left

module _ {S : Type 0} (checked : S → S) (wrote : S → List ℕ → S) where
  abbrev pub WriteOperation : Meaning → List ℕ → S → Result (Poll ℕ) StreamError → S → Type 0
  WriteOperation (faulted f) bytes s r t = Operated (Err (LastOperationFailed f)) (checked s) r t
  WriteOperation closed bytes s r t = Operated (Err Closed) (checked s) r t
  WriteOperation (open_with zero) bytes s r t = Operated (Ok Pending) s r t
  WriteOperation (open_with (suc n)) bytes s r t = Operated (Ok (Ready (min (suc n) (length bytes)))) (wrote s (take (suc n) bytes)) r t

-- a stage of a flush waits until the stream is ready, and then makes its call
module _ {S : Type 0} (call : S → S) where
  abbrev pub StageOperation : Meaning → S → Result (Poll (Unit {0})) StreamError → S → Type 0
  StageOperation (faulted f) s r t = Operated (Err (LastOperationFailed f)) (call s) r t
  StageOperation closed s r t = Operated (Err Closed) (call s) r t
  StageOperation (open_with zero) s r t = Operated (Ok Pending) s r t
  StageOperation (open_with (suc n)) s r t = Operated (Ok (Ready tt)) (call s) r t
