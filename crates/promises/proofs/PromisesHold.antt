-- The promises over every writer: each run goes the few ways of a path.
-- Assumes nothing.
use Rattle.std.proofs.Common.{ℕ, List, refl}
use Rattle.writer.specs.declared.answer.WriteAnswer.{WriteAnswer}
use Rattle.writer.specs.declared.answer.FlushAnswer.{FlushAnswer}
use Rattle.writer.specs.Meaning.{WriteMeans, FlushMeans}
use Rattle.promises.specs.Promises.{Promises}
use Rattle.promises.proofs.View.{stream_in, path_of}
use Rattle.promises.proofs.Accounting.{path_accounting, conserved}
use Rattle.promises.proofs.FlushMark.{done_covers}
use Rattle.promises.proofs.Rounds.{in_time}

pub promises_hold : {V : Type 0} (taken : V → List ℕ) (covered : V → ℕ) (writes : V → List ℕ → WriteAnswer → V → Type 0) (flushes : V → FlushAnswer → V → Type 0)
    → ((a b : V) (part : List ℕ) (r : WriteAnswer) → writes a part r b → WriteMeans (taken a) (covered a) part r (taken b) (covered b))
    → ((a b : V) (r : FlushAnswer) → flushes a r b → FlushMeans (taken a) (covered a) r (taken b) (covered b))
    → Promises taken covered writes flushes
promises_hold taken covered writes flushes wrote flushed =
    record {
      conservation = λ B h w es s run. conserved B (taken w) es (stream_in taken covered s) (path_accounting (path_of taken covered wrote flushed run));
      done_means_flushed = λ B h w es s i run still_Open. done_covers i (path_of taken covered wrote flushed run) refl still_Open;
      bounded_waiting = λ B h w es s some_budget run no_cancel patient. in_time some_budget (path_of taken covered wrote flushed run) no_cancel patient;
    }
