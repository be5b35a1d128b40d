-- What a stream, its lock and its handles are together. Assumes nothing.
--   parts_view   the view, over the view of the stream
use Rattle.promises.specs.SharedView.{SharedView}
use Rattle.shared.specs.declared.locked_async.parts.Parts.{Parts}
use Rattle.shared.specs.LockOf.{queue_of}
use Rattle.shared.specs.TableOf.{handles_of}

abbrev pub parts_view : {S V : Type 0} → (S → V) → Parts S → SharedView V
parts_view view p = record { stream = view p.stream; queue = queue_of p.lock; handles = handles_of p.table }
