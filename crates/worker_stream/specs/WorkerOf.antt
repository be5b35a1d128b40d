-- The view of a worker stream, over the view of its writer. Assumes nothing.
--   worker_view   the view
use Rattle.worker_stream.specs.declared.write_stream.worker.AsyncWriteStream.{AsyncWriteStream}
use Rattle.worker_stream.specs.WorkerView.{WorkerView}

abbrev pub worker_view : {W V : Type 0} → (W → V) → AsyncWriteStream W → WorkerView V
worker_view view s =
    record { free = s.write_budget; unfinished = s.store.unfinished; progress = s.store.progress; pending = s.flush_pending; status = s.status; cancelled = s.cancelled; writer = view s.writer }
