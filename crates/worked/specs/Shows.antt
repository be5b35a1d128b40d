-- A list of calls of a worker stream with their answers, from a given stream on. Assumes nothing.
--   Did      a call or a question, with its answer
--   Shows    the calls are made in order, and each has the answer that stands beside it
--   memory   a planned writer over so much memory, with these entries planned
--   stream   a stream just made, from a budget and a writer
use Rattle.std.specs.Prelude.{◌≡◌, ℕ, Bool, List, [], ◌∷◌, length, replicate, Result}
use Rattle.planned_writer.specs.declared.plan.PlanEntry.{PlanEntry}
use Rattle.writer.specs.declared.answer.WriteAnswer.{WriteAnswer}
use Rattle.writer.specs.declared.answer.FlushAnswer.{FlushAnswer}
use Rattle.memory_writers.specs.Area.{Area, fresh_area}
use Rattle.memory_writers.specs.Stores.{MemoryWrites, AreaFlushes}
use Rattle.planned_writer.specs.Planned.{PlannedView, PlannedWrites, PlannedFlushes}
use Rattle.stream.specs.declared.error.StreamError.{StreamError}
use Rattle.worker_stream.specs.declared.write_stream.job.Turn.{Turn}
use Rattle.stream.specs.Meaning.{permit, ready as is_ready, flush_answer}
use Rattle.worker_stream.specs.WorkerView.{WorkerView, fresh}
use Rattle.worker_stream.specs.WorkerCalls.{meaning, checked, accepts, wrote, flushed, cancel as cancelled}
use Rattle.worker_stream.specs.WorkerTurn.{Turned}

pub data Did : Type 0 where
  write : List ℕ → Result (Unit {0}) StreamError → Did
  check_write : Result ℕ StreamError → Did
  flush : Result (Unit {0}) StreamError → Did
  cancel : Did
  turn : Turn → Did
  free : ℕ → Did
  ready : Bool → Did

abbrev pub Stream : Type 0
Stream = WorkerView (PlannedView Area)

abbrev pub writes : PlannedView Area → List ℕ → WriteAnswer → PlannedView Area → Type 0
writes a part r b = PlannedWrites MemoryWrites a.plan a part r b

abbrev pub flushes : PlannedView Area → FlushAnswer → PlannedView Area → Type 0
flushes a r b = PlannedFlushes AreaFlushes a.plan a r b

unfoldable pub Shows : Stream → List Did → Type 0
Shows s [] = Unit {0}
Shows s (write bytes r ∷ more) = (accepts s bytes ≡ r) × Shows (wrote s bytes) more
Shows s (check_write r ∷ more) = (permit (meaning s) ≡ r) × Shows (checked s) more
Shows s (flush r ∷ more) = (flush_answer (meaning s) ≡ r) × Shows (flushed s) more
Shows s (cancel ∷ more) = Shows (cancelled s) more
Shows s (turn r ∷ more) = (t : Stream) × Turned writes flushes s r t × Shows t more
Shows s (free n ∷ more) = (s.free ≡ n) × Shows s more
Shows s (ready b ∷ more) = (is_ready (meaning s) ≡ b) × Shows s more

abbrev pub memory : ℕ → List PlanEntry → PlannedView Area
memory size entries = record { plan = entries; planned = length entries; below = fresh_area 0 (replicate size 0) }

abbrev pub stream : ℕ → PlannedView Area → Stream
stream budget writer = fresh budget writer
