-- What the calls of a worker stream answer and leave. Assumes nothing.
--   no_fault, alive   the two questions before every call
--   refusal           the refusal of check_write and flush, if there is one
--   write_refusal     the refusal of a write, if there is one
--   permitted         what check_write answers where it is not refused
--   meaning           faulted, closed, or open with a permit
--   left_by           what a call leaves: a refusal changes nothing, but that a told fault leaves the stream closed
--   accept            an accepted write: the budget falls by its length
--   checked, wrote, flushed, accepts, flushing, cancel   each call in those words
use Rattle.std.specs.Prelude.{ℕ, ◌-◌, Bool, true, false, cond, not, ◌&&◌, List, [], ◌∷◌, ◌++◌, length, Some, None, Option, Result, nat_le, nat_lt}
use Rattle.stream.specs.declared.error.StreamError.{StreamError}
use Rattle.stream.specs.declared.error.StreamError.TheVariants.{LastOperationFailed, Closed, Trap}
use Rattle.stream.specs.declared.error.Trap.TheVariants.{FlushPending, OverBudget, TooManyWrites}
use Rattle.worker_stream.specs.declared.write_stream.worker.Status.{Status}
use Rattle.worker_stream.specs.declared.write_stream.worker.Status.TheVariants.{Alive, Faulted, Closed as ClosedStatus}
use Rattle.stream.specs.Questions.{asks, first_no, answered}
use Rattle.stream.specs.Meaning.{Meaning, faulted, closed, open_with}
use Rattle.worker_stream.specs.WorkerView.{WorkerView, with_free, with_unfinished, with_pending, with_status, with_cancelled}

abbrev pub no_fault : Status → Option StreamError
no_fault Alive = None
no_fault (Faulted f) = Some (LastOperationFailed f)
no_fault ClosedStatus = None

abbrev pub alive : Status → Option StreamError
alive Alive = None
alive (Faulted f) = Some Closed
alive ClosedStatus = Some Closed

abbrev pub is_alive : Status → Bool
is_alive Alive = true
is_alive (Faulted f) = false
is_alive ClosedStatus = false

abbrev pub meaning_of : Status → ℕ → Meaning
meaning_of Alive n = open_with n
meaning_of (Faulted f) n = faulted f
meaning_of ClosedStatus n = closed

module _ {V : Type 0} where
  abbrev pub refusal : WorkerView V → Option StreamError
  refusal s = first_no (no_fault s.status ∷ alive s.status ∷ [])

  abbrev pub write_refusal : WorkerView V → List ℕ → Option StreamError
  write_refusal s bytes =
      first_no (no_fault s.status ∷ alive s.status ∷ asks (not s.pending) (Trap FlushPending) ∷ asks (nat_le (length bytes) s.free) (Trap OverBudget) ∷ asks (nat_lt (length s.unfinished) 256) (Trap TooManyWrites) ∷ [])

  abbrev pub permitted : WorkerView V → ℕ
  permitted s = cond s.pending 0 (cond (nat_lt (length s.unfinished) 256) s.free 0)

  abbrev pub meaning : WorkerView V → Meaning
  meaning s = meaning_of s.status (permitted s)

  abbrev pub refused : StreamError → WorkerView V → WorkerView V
  refused (LastOperationFailed f) s = with_status ClosedStatus s
  refused Closed s = s
  refused (Trap e) s = s

  abbrev pub left_by : Option StreamError → WorkerView V → WorkerView V → WorkerView V
  left_by None s accepted = accepted
  left_by (Some e) s accepted = refused e s

  abbrev pub accept : List ℕ → WorkerView V → WorkerView V
  accept bytes s = with_free (s.free - length bytes) (with_unfinished (s.unfinished ++ bytes ∷ []) s)

  abbrev pub checked : WorkerView V → WorkerView V
  checked s = left_by (refusal s) s s

  abbrev pub accepts : WorkerView V → List ℕ → Result (Unit {0}) StreamError
  accepts s bytes = answered (write_refusal s bytes) tt

  abbrev pub wrote : WorkerView V → List ℕ → WorkerView V
  wrote s bytes = left_by (write_refusal s bytes) s (accept bytes s)

  abbrev pub flushed : WorkerView V → WorkerView V
  flushed s = left_by (refusal s) s (with_pending true s)

  abbrev pub flushing : WorkerView V → Bool
  flushing s = is_alive s.status && s.pending

  abbrev pub cancel : WorkerView V → WorkerView V
  cancel s = with_cancelled true s
