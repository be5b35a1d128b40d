-- A list of calls of a shared stream with their answers, from a given shared stream on. Assumes nothing.
--   Happens   the calls are made in order, each one step of the rules with the answer that stands beside it
--   shared    a shared stream just made, from a budget, a count of handles and a writer
use Rattle.std.specs.Prelude.{ℕ, List, [], ◌∷◌}
use Rattle.memory_writers.specs.Area.{Area}
use Rattle.planned_writer.specs.Planned.{PlannedView}
use Rattle.promises.specs.Events.{Event}
use Rattle.promises.specs.SharedView.{SharedView, fresh}
use Rattle.promises.specs.Steps.{Step}
use Rattle.worked.specs.Shows.{Stream, writes, flushes, stream}

unfoldable pub Happens : SharedView Stream → List Event → Type 0
Happens s [] = Unit {0}
Happens s (e ∷ more) = (t : SharedView Stream) × Step writes flushes s e t × Happens t more

abbrev pub shared : ℕ → ℕ → PlannedView Area → SharedView Stream
shared budget handles writer = fresh (stream budget writer) handles
