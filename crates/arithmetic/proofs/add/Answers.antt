-- `add` is `clamp` of the exact sum, which 64 bits hold.
use Rattle.arithmetic.specs.Arithmetic.{sum}
use Rattle.arithmetic.proofs.Laws.{operand_fits, result_fits, result_clamped, sum_exact}
use Rattle.arithmetic.proofs.add.Goals as goal

pub overflow_cast-x : goal.overflow_cast-x
overflow_cast-x c = operand_fits c.ranges.x

pub overflow_cast-y : goal.overflow_cast-y
overflow_cast-y c = operand_fits c.ranges.y

pub overflow_add-x : goal.overflow_add-x
overflow_add-x c = result_fits sum_exact c.ranges.x c.ranges.y

pub returns : goal.returns
unfolding sum
returns c = result_clamped sum_exact c.ranges.x c.ranges.y c.clamp.type_inv c.clamp.ensures
