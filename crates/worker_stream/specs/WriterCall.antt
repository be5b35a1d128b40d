-- The one call of the writer in a host turn. Assumes nothing.
--   Wrote      the writer was offered this part, and answered so
--   Flushed    the writer was asked to flush, and answered so
--   Called     which call was made for which work, and what it left
--   Within     an answer to an offer of so many bytes took no more than that
use Rattle.std.specs.Prelude.{◌≡◌, ℕ, ◌≤◌, List, Some, None, Option}
use Rattle.writer.specs.declared.answer.WriteAnswer.{WriteAnswer}
use Rattle.writer.specs.declared.answer.WriteAnswer.TheVariants.{Took, NotYet, Failed}
use Rattle.writer.specs.declared.answer.FlushAnswer.{FlushAnswer}
use Rattle.worker_stream.specs.declared.write_stream.worker.turns.WriterCall.{WriterCall}
use Rattle.worker_stream.specs.declared.write_stream.worker.turns.WriterCall.TheVariants.{Empty, Write, Flush}
use Rattle.worker_stream.specs.WorkerView.{WorkerView, with_writer}
use Rattle.worker_stream.specs.Work.{Work, finish_empty, offer, flush_writer, nothing, work_left}

abbrev pub left_to_do : {V : Type 0} → WorkerView V → Work
left_to_do s = work_left s.unfinished s.progress s.pending

module _ {V : Type 0} (writes : V → List ℕ → WriteAnswer → V → Type 0) (flushes : V → FlushAnswer → V → Type 0) where
  pub record Wrote (answer : WriteAnswer) (s t : WorkerView V) : Type 0 where
    pub part : List ℕ
    pub writer : V
    pub work : left_to_do s ≡ offer part
    pub tells : writes s.writer part answer writer
    pub left : t ≡ with_writer writer s

  pub record Flushed (answer : FlushAnswer) (s t : WorkerView V) : Type 0 where
    pub writer : V
    pub work : left_to_do s ≡ flush_writer
    pub tells : flushes s.writer answer writer
    pub left : t ≡ with_writer writer s

  pub record Uncalled (work_is : Work) (s t : WorkerView V) : Type 0 where
    pub work : left_to_do s ≡ work_is
    pub left : t ≡ s

  abbrev pub Called : Option WriterCall → WorkerView V → WorkerView V → Type 0
  Called None s t = Uncalled nothing s t
  Called (Some Empty) s t = Uncalled finish_empty s t
  Called (Some (Write answer)) s t = Wrote answer s t
  Called (Some (Flush answer)) s t = Flushed answer s t

abbrev pub Within : WriteAnswer → ℕ → Type 0
Within (Took n) offered = n ≤ offered
Within NotYet offered = Unit {0}
Within (Failed f) offered = Unit {0}
