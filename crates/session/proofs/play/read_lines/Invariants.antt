use Rattle.std.proofs.Common.{◌≡◌}
use Rattle.script.specs.LinesOf.{lines_left}
use Rattle.script_reading.specs.Reading.{lines_read}
use Rattle.script_reading.specs.ReadingOf.{read_of}
use Rattle.session.proofs.play.read_lines.Given as goal

abbrev pub invariant-loop-line : goal.invariant-loop-line
invariant-loop-line l = lines_read (read_of l.initial.reading) (lines_left l.initial.line-iterator) ≡ lines_read (read_of l.reading) (lines_left l.line-iterator)
