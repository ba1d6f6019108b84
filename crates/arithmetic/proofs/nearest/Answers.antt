-- 64 bits hold what `nearest` makes, and its two tests choose the nearest number.
use mathlib.Core.Path.{refl}
use borrow.Author.Rules.{rules}
use Rattle.arithmetic.proofs.Rounding.{all_fit, answered}
use Rattle.arithmetic.proofs.nearest.Goals as goal

pub nonzero_div-quotient : goal.nonzero_div-quotient
nonzero_div-quotient c = search (rules, all_fit c.args.x c.args.y c.requires)

pub nonzero_rem-twice : goal.nonzero_rem-twice
nonzero_rem-twice c = search (rules, all_fit c.args.x c.args.y c.requires)

pub overflow_mul-twice : goal.overflow_mul-twice
overflow_mul-twice c = search (rules, all_fit c.args.x c.args.y c.requires)

pub nonzero_rem-twice-2 : goal.nonzero_rem-twice-2
nonzero_rem-twice-2 c =
    let fit = all_fit c.args.x c.args.y c.requires in
    search (rules, fit, fit.half)

pub overflow_add-twice : goal.overflow_add-twice
overflow_add-twice c =
    let fit = all_fit c.args.x c.args.y c.requires in
    search (rules, fit, fit.odd, fit.counted)

pub overflow_add-result : goal.overflow_add-result
overflow_add-result c =
    let fit = all_fit c.args.x c.args.y c.requires in
    search (rules, fit, fit.above)

pub returns-then-y-twice : goal.returns-then-y-twice
returns-then-y-twice c = answered c.ranges.x c.ranges.y c.requires c.if-y-twice.true refl

pub overflow_sub-y : goal.overflow_sub-y
overflow_sub-y c = search (rules, all_fit c.args.x c.args.y c.requires)

pub overflow_sub-result : goal.overflow_sub-result
overflow_sub-result c =
    let fit = all_fit c.args.x c.args.y c.requires in
    search (rules, fit, fit.under)

pub returns-then-twice-y : goal.returns-then-twice-y
returns-then-twice-y c =
    answered c.ranges.x c.ranges.y c.requires c.if-y-twice.false c.if-twice-y.true

pub returns : goal.returns
returns c =
    answered c.ranges.x c.ranges.y c.requires c.if-y-twice.false c.if-twice-y.false
