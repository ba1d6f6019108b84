-- `div` finds the divisor 0 by its bits; else it is `clamp` of the nearest number, with both signs turned where the divisor is below zero.
use Rattle.arithmetic.proofs.Laws.{operand_fits}
use Rattle.arithmetic.proofs.Division.{opposite_fits, by_zero, asked_above, rounded_above, asked_below, rounded_below, divided}
use Rattle.arithmetic.proofs.div.Goals as goal

pub returns-then-y-eq0 : goal.returns-then-y-eq0
returns-then-y-eq0 c = by_zero _ c.ranges.y c.if-y-eq0.true

pub overflow_cast-x : goal.overflow_cast-x
overflow_cast-x c = operand_fits c.ranges.x

pub overflow_sub-x : goal.overflow_sub-x
overflow_sub-x c = opposite_fits c.ranges.x

pub overflow_cast-y : goal.overflow_cast-y
overflow_cast-y c = operand_fits c.ranges.y

pub overflow_sub-y : goal.overflow_sub-y
overflow_sub-y c = opposite_fits c.ranges.y

pub nearest-requires : goal.nearest-requires
nearest-requires c = asked_below c.ranges.x c.ranges.y c.if-y-lt0.true

pub returns-then-y-lt0 : goal.returns-then-y-lt0
returns-then-y-lt0 c =
    let fits = c.ranges in
    divided (rounded_below fits.x fits.y c.if-y-lt0.true) c.nearest.type_inv c.nearest.ensures c.clamp.type_inv
    c.clamp.ensures

pub overflow_cast-x-2 : goal.overflow_cast-x-2
overflow_cast-x-2 c = operand_fits c.ranges.x

pub overflow_cast-y-2 : goal.overflow_cast-y-2
overflow_cast-y-2 c = operand_fits c.ranges.y

pub nearest-requires-2 : goal.nearest-requires-2
nearest-requires-2 c = asked_above c.ranges.x c.ranges.y c.if-y-eq0.false c.if-y-lt0.false

pub returns : goal.returns
returns c =
    let fits = c.ranges in
    divided (rounded_above fits.x fits.y c.if-y-eq0.false c.if-y-lt0.false) c.nearest-2.type_inv
    c.nearest-2.ensures c.clamp-2.type_inv c.clamp-2.ensures
