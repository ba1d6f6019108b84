-- `sub` is `clamp` of the exact difference, which 64 bits hold.
use Rattle.arithmetic.specs.Arithmetic.{difference}
use Rattle.arithmetic.proofs.Laws.{operand_fits, result_fits, result_clamped, difference_exact}
use Rattle.arithmetic.proofs.sub.Goals as goal

pub overflow_cast-x : goal.overflow_cast-x
overflow_cast-x c = operand_fits c.ranges.x

pub overflow_cast-y : goal.overflow_cast-y
overflow_cast-y c = operand_fits c.ranges.y

pub overflow_sub-x : goal.overflow_sub-x
overflow_sub-x c = result_fits difference_exact c.ranges.x c.ranges.y

pub returns : goal.returns
unfolding difference
returns c = result_clamped difference_exact c.ranges.x c.ranges.y c.clamp.type_inv c.clamp.ensures
