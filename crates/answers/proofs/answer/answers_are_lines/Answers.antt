use Rattle.answers.proofs.OneLines.{answers_are_lines, answers_are_the_lines}
use Rattle.answers.proofs.answer.answers_are_lines.Goals as goal

pub returns : goal.returns
returns c = record { lines = answers_are_lines; whole = answers_are_the_lines }
