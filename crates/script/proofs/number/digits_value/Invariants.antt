use Rattle.script.proofs.Readings.{Read}
use Rattle.script.proofs.number.digits_value.Given as goal

abbrev pub invariant-loop-byte : goal.invariant-loop-byte
invariant-loop-byte l = Read l.text l.byte-index l.value
