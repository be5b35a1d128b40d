-- A host turn of a worker stream. Assumes nothing.
--   work         what a turn has to do, in the order of the rules
--   Outcome      the word of a turn and the view that it leaves
--   after_write  the outcome by the writer's answer to an offer of so many bytes
--   after_flush  the outcome by the writer's answer to a flush
--   Turned       a turn, by its word and the views before and after: one outcome, but for the writer's answer
--   TurnedOnce   a turn, whatever its word
use Rattle.std.specs.Prelude.{◌≡◌, ℕ, zero, suc, ◌+◌, false, cond, List, length, drop, ◌==◌}
use Rattle.writer.specs.declared.answer.Fault.{Fault}
use Rattle.writer.specs.declared.answer.Fault.TheVariants.{WriteZero}
use Rattle.writer.specs.declared.answer.WriteAnswer.{WriteAnswer}
use Rattle.writer.specs.declared.answer.WriteAnswer.TheVariants.{Took, NotYet as WriteNotYet, Failed as WriteFailed}
use Rattle.writer.specs.declared.answer.FlushAnswer.{FlushAnswer}
use Rattle.writer.specs.declared.answer.FlushAnswer.TheVariants.{Done, NotYet as FlushNotYet, Failed as FlushFailed}
use Rattle.worker_stream.specs.declared.write_stream.job.Turn.{Turn}
use Rattle.worker_stream.specs.declared.write_stream.job.Turn.TheVariants.{Stopped, Finished, Moved, Flushed, Idle, NotYet, Failed}
use Rattle.worker_stream.specs.declared.write_stream.worker.Status.TheVariants.{Faulted}
use Rattle.worker_stream.specs.StoreView.{oldest}
use Rattle.worker_stream.specs.Work.{Work, stop, finish_empty, offer, flush_writer, nothing, work_left}
use Rattle.worker_stream.specs.WorkerView.{WorkerView, with_free, with_unfinished, with_progress, with_pending, with_status, with_writer}
use Rattle.worker_stream.specs.WorkerCalls.{is_alive}

pub record Outcome (V : Type 0) : Type 0 where
  pub word : Turn
  pub view : WorkerView V

module _ {V : Type 0} where
  abbrev pub work : WorkerView V → Work
  work s = cond s.cancelled stop (cond (is_alive s.status) (work_left s.unfinished s.progress s.pending) stop)

  abbrev pub outcome : Turn → WorkerView V → Outcome V
  outcome r s = record { word = r; view = s }

  -- the oldest write is finished, and its whole length returns to the budget
  abbrev pub finishes : WorkerView V → Outcome V
  finishes s = outcome (Finished (length (oldest s.unfinished))) (with_free (s.free + length (oldest s.unfinished)) (with_unfinished (drop 1 s.unfinished) (with_progress 0 s)))

  abbrev pub moves : ℕ → WorkerView V → Outcome V
  moves n s = outcome (Moved n) (with_progress (s.progress + n) s)

  -- a fault is stored, the stream is not alive, the flush is given up, and the budget stays
  abbrev pub fails : Fault → WorkerView V → Outcome V
  fails f s = outcome Failed (with_status (Faulted f) (with_pending false s))

  abbrev pub took : ℕ → ℕ → WorkerView V → Outcome V
  took zero offered s = fails WriteZero s
  took (suc k) offered s = cond (suc k == offered) (finishes s) (moves (suc k) s)

  abbrev pub after_write : WriteAnswer → ℕ → WorkerView V → Outcome V
  after_write (Took n) offered s = took n offered s
  after_write WriteNotYet offered s = outcome NotYet s
  after_write (WriteFailed f) offered s = fails f s

  abbrev pub after_flush : FlushAnswer → WorkerView V → Outcome V
  after_flush Done s = outcome Flushed (with_pending false s)
  after_flush FlushNotYet s = outcome NotYet s
  after_flush (FlushFailed f) s = fails f s

  pub record Gives (o : Outcome V) (r : Turn) (t : WorkerView V) : Type 0 where
    pub word : r ≡ o.word
    pub view : t ≡ o.view

module _ {V : Type 0} (writes : V → List ℕ → WriteAnswer → V → Type 0) (flushes : V → FlushAnswer → V → Type 0) where
  -- the writer is offered this part, and tells an answer for it
  pub record Offered (part : List ℕ) (s : WorkerView V) (r : Turn) (t : WorkerView V) : Type 0 where
    pub answer : WriteAnswer
    pub writer : V
    pub tells : writes s.writer part answer writer
    pub gives : Gives (after_write answer (length part) (with_writer writer s)) r t

  -- the writer is asked to flush, and tells an answer for that
  pub record Flushing (s : WorkerView V) (r : Turn) (t : WorkerView V) : Type 0 where
    pub answer : FlushAnswer
    pub writer : V
    pub tells : flushes s.writer answer writer
    pub gives : Gives (after_flush answer (with_writer writer s)) r t

  abbrev pub Does : Work → WorkerView V → Turn → WorkerView V → Type 0
  Does stop s r t = Gives (outcome Stopped s) r t
  Does finish_empty s r t = Gives (finishes s) r t
  Does (offer part) s r t = Offered part s r t
  Does flush_writer s r t = Flushing s r t
  Does nothing s r t = Gives (outcome Idle s) r t

  abbrev pub Turned : WorkerView V → Turn → WorkerView V → Type 0
  Turned s r t = Does (work s) s r t

  abbrev pub TurnedOnce : WorkerView V → WorkerView V → Type 0
  TurnedOnce s t = (r : Turn) × Turned s r t
