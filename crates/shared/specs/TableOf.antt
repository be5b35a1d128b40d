-- The handles of a table. Assumes nothing.
--   handles_of   the handles that there are, by their numbers
use Rattle.std.specs.Prelude.{List}
use Rattle.promises.specs.SharedView.{HandleView}
use Rattle.shared.specs.declared.locked_async.table.Table.{Table}

abbrev pub handles_of : Table → List HandleView
handles_of t = t.handles.items
