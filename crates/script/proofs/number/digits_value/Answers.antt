use Rattle.std.proofs.Common.{sym, arith}
use Rattle.script.proofs.Readings.{read_none, read_more, read_small, value_of_digits, none_without_digits}
use Rattle.script.proofs.number.digits_value.Goals as goal

pub loop-byte-init : goal.loop-byte-init
loop-byte-init c = read_none _

pub returns-then-not-is_ascii_digit : goal.returns-then-not-is_ascii_digit
returns-then-not-is_ascii_digit c = record { value = none_without_digits _ _ c.loop-byte-test.true (sym c.if-not-is_ascii_digit.ensures.value) }

pub overflow_mul-value : goal.overflow_mul-value
overflow_mul-value c = omega (arith, read_small _ _ _ (omega arith) c.loop-byte-test.true c.loop-byte.invariant)

pub overflow_add-value : goal.overflow_add-value
overflow_add-value c = omega (arith, read_small _ _ _ (omega arith) c.loop-byte-test.true c.loop-byte.invariant, c.type_inv.text c.loop-byte.byte-index)

pub loop-byte-preserved : goal.loop-byte-preserved
loop-byte-preserved c =
    read_more _ _ _ _ c.loop-byte-test.true c.loop-byte.invariant (sym c.if-not-is_ascii_digit.ensures.value) c.from.ensures

pub returns : goal.returns
returns c = record { value = value_of_digits _ _ _ c.loop-byte-test.false c.loop-byte.invariant }
