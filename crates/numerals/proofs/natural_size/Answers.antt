use native.Mathlib.Omega.{arith}
use Rattle.numerals.specs.DigitLaws.{digits_none, digits_count, decimal_count, decimal_length}
use Rattle.numerals.proofs.natural_size.Goals as goal

pub loop-rest-init : goal.loop-rest-init
loop-rest-init c = omega (arith, decimal_count c.args.value)

pub overflow_add-count : goal.overflow_add-count
overflow_add-count c = omega (arith, decimal_length 19 c.args.value (omega arith))

pub loop-rest-smaller : goal.loop-rest-smaller
loop-rest-smaller c = omega arith

pub loop-rest-preserved : goal.loop-rest-preserved
loop-rest-preserved c = omega (arith, digits_count c.loop-rest.rest c.loop-rest-test.true)

pub returns : goal.returns
returns c = omega (arith, decimal_length 19 c.args.value (omega arith), digits_none c.loop-rest.rest c.loop-rest-test.false)
