-- `mul` is `clamp` of the exact product, which 64 bits hold.
use Rattle.arithmetic.specs.Arithmetic.{product}
use Rattle.arithmetic.proofs.Laws.{operand_fits, result_fits, result_clamped, product_exact}
use Rattle.arithmetic.proofs.mul.Goals as goal

pub overflow_cast-x : goal.overflow_cast-x
overflow_cast-x c = operand_fits c.ranges.x

pub overflow_cast-y : goal.overflow_cast-y
overflow_cast-y c = operand_fits c.ranges.y

pub overflow_mul-x : goal.overflow_mul-x
overflow_mul-x c = result_fits product_exact c.ranges.x c.ranges.y

pub returns : goal.returns
unfolding product
returns c = result_clamped product_exact c.ranges.x c.ranges.y c.clamp.type_inv c.clamp.ensures
