-- `put` meets its contract: a minus and the digits behind it, or the digits alone; past the end nothing is put. Assumes nothing.
use mathlib.Core.Path.{sym, ap, ◌∙◌}
use native.Mathlib.Numerals.{add-one}
use native.Mathlib.Omega.{arith}
use lib.ListN.{length-set}
use lib.Seq.{sets}
use Rattle.numerals.specs.Numerals.{decimal}
use Rattle.numerals.proofs.PuttingLaws.{sets_out, below_zero_holds, not_below_zero_holds}
use Rattle.numerals.proofs.put.Goals as goal

pub returns-then-text-at : goal.returns-then-text-at
returns-then-text-at c =
    let a = c.args in
    sym (sets_out a.text.now a.at (decimal a.number) c.if-text-at.true)

pub put_digits-requires : goal.put_digits-requires
put_digits-requires c = simp length-set (omega arith)

pub returns-then-number-lt0 : goal.returns-then-number-lt0
returns-then-number-lt0 c =
    let a = c.args in
    let h = c.ranges.number in
    let value = c.absolute-value.ensures in
    let written = below_zero_holds h value c.if-number-lt0.true in
    c.put_digits.ensures ∙ rw add-one (ap (sets a.text.now a.at) (sym written))

pub returns-else-number-lt0 : goal.returns-else-number-lt0
returns-else-number-lt0 c =
    let a = c.args in
    let h = c.ranges.number in
    let value = c.absolute-value.ensures in
    let written = not_below_zero_holds h value c.if-number-lt0.false in
    c.put_digits-else-number-lt0.ensures ∙ ap (sets a.text.now a.at) (sym written)
