-- The lines that an iterator has left. Assumes nothing.
use Rattle.std.specs.Prelude.{ℕ, List}
use Rattle.script.specs.declared.lines.Lines.{Lines}
use Rattle.script.specs.Lines.{lines}

abbrev pub lines_left : Lines → List (List ℕ)
lines_left it = lines it.rest.now
