-- A call of a shared stream together with its answer. Assumes nothing.
--   Event   direct calls first, then the host's, then those of a handle by its number
use Rattle.std.specs.Prelude.{ℕ, List, Result}
use Rattle.worker_stream.specs.declared.write_stream.job.Turn.{Turn}
use Rattle.handles.specs.Errors.{DirectError, HandleError}
use Rattle.handles.specs.declared.handle.Poll.{Poll}

pub data Event : Type 0 where
  write : List ℕ → Result (Unit {0}) DirectError → Event
  check : Result ℕ DirectError → Event
  flush : Result (Unit {0}) DirectError → Event
  cancel : Event
  turn : Turn → Event
  handle_write : ℕ → List ℕ → Result (Poll ℕ) HandleError → Event
  handle_flush : ℕ → Result (Poll (Unit {0})) HandleError → Event
  handle_drop : ℕ → Result (Unit {0}) HandleError → Event
