use Rattle.std.proofs.Common.{arith}
use Rattle.std.proofs.lemmas.Grind.{common_steps}
use Rattle.script.proofs.Splits.{first_or_all}
use Rattle.script.proofs.lines.next_line.Goals as goal

pub returns : goal.returns
returns c = record { cases = rw c.unwrap_or.ensures (first_or_all c.args.text.now c.split_once.result _ c.split_once.ensures.value (grind (arith, common_steps)) (grind (arith, common_steps))) }
