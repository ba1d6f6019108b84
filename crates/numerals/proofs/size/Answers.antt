-- `size` meets its contract: a number's bytes are its digits and, below 0, the minus. Assumes nothing.
use mathlib.Core.Path.{ap}
use native.Mathlib.Omega.{arith}
use lib.ListN.{length}
use Rattle.numerals.specs.Laws.{decimal_length}
use Rattle.numerals.proofs.PuttingLaws.{below_zero_holds, not_below_zero_holds}
use Rattle.numerals.proofs.size.Goals as goal

pub returns-then-number-lt0 : goal.returns-then-number-lt0
returns-then-number-lt0 c =
    let h = c.ranges.number in
    let written = ap length (below_zero_holds h c.absolute.ensures c.if-number-lt0.true) in
    omega (arith, c.natural_size-digits.ensures.0, written, decimal_length _ h)

pub returns : goal.returns
returns c =
    let h = c.ranges.number in
    let written = ap length (not_below_zero_holds h c.absolute.ensures c.if-number-lt0.false) in
    omega (arith, c.natural_size-digits.ensures.0, written, decimal_length _ h)
