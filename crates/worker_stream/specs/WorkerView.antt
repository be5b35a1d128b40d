-- What a worker stream is, over the view of its writer. Assumes nothing.
--   WorkerView   the view
--   fresh        a stream just made
--   with_..      the same view with one part changed
use Rattle.std.specs.Prelude.{ℕ, Bool, false, List, []}
use Rattle.worker_stream.specs.declared.write_stream.worker.Status.{Status}
use Rattle.worker_stream.specs.declared.write_stream.worker.Status.TheVariants.{Alive}

pub record WorkerView (V : Type 0) : Type 0 where
  pub free : ℕ
  pub unfinished : List (List ℕ)
  pub progress : ℕ
  pub pending : Bool
  pub status : Status
  pub cancelled : Bool
  pub writer : V

module _ {V : Type 0} where
  abbrev pub fresh : ℕ → V → WorkerView V
  fresh budget writer = record { free = budget; unfinished = []; progress = 0; pending = false; status = Alive; cancelled = false; writer = writer }

  abbrev pub with_free : ℕ → WorkerView V → WorkerView V
  with_free n s = record { free = n; unfinished = s.unfinished; progress = s.progress; pending = s.pending; status = s.status; cancelled = s.cancelled; writer = s.writer }

  abbrev pub with_unfinished : List (List ℕ) → WorkerView V → WorkerView V
  with_unfinished ws s = record { free = s.free; unfinished = ws; progress = s.progress; pending = s.pending; status = s.status; cancelled = s.cancelled; writer = s.writer }

  abbrev pub with_progress : ℕ → WorkerView V → WorkerView V
  with_progress n s = record { free = s.free; unfinished = s.unfinished; progress = n; pending = s.pending; status = s.status; cancelled = s.cancelled; writer = s.writer }

  abbrev pub with_pending : Bool → WorkerView V → WorkerView V
  with_pending b s = record { free = s.free; unfinished = s.unfinished; progress = s.progress; pending = b; status = s.status; cancelled = s.cancelled; writer = s.writer }

  abbrev pub with_status : Status → WorkerView V → WorkerView V
  with_status st s = record { free = s.free; unfinished = s.unfinished; progress = s.progress; pending = s.pending; status = st; cancelled = s.cancelled; writer = s.writer }

  abbrev pub with_cancelled : Bool → WorkerView V → WorkerView V
  with_cancelled b s = record { free = s.free; unfinished = s.unfinished; progress = s.progress; pending = s.pending; status = s.status; cancelled = b; writer = s.writer }

  abbrev pub with_writer : V → WorkerView V → WorkerView V
  with_writer w s = record { free = s.free; unfinished = s.unfinished; progress = s.progress; pending = s.pending; status = s.status; cancelled = s.cancelled; writer = w }
