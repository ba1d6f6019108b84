use mathlib.Core.Path.{◌≡◌, refl, sym, ap, ◌∙◌}
use mathlib.Core.List.{List}
use Prim.Native.Nat.{ℕ, ◌+◌, ◌-◌, ◌/◌, ◌%◌}
use native.Mathlib.Omega.{arith}
use lib.ListN.{length, set, length-set}
use lib.Seq.{sets}
use Rattle.numerals.proofs.PuttingLaws.{padded, all_left, one_put, none_left}
use Rattle.numerals.proofs.put_digits.Goals as goal

pub loop-end-init : goal.loop-end-init
loop-end-init c =
    let a = c.args in
    (omega arith, refl, all_left a.text.now a.at c.natural_size.result a.value c.natural_size.ensures.0)

pub loop-end-preserved : goal.loop-end-preserved
loop-end-preserved c =
    let at = c.args.at in
    let l = c.loop-end in
    let stored : c.put.new.slice ≡ set l.text (l.end - 1) (48 + l.rest % 10) = c.put.ensures in
    let left = ap (λ (m : List ℕ). sets m at (padded (l.end - 1 - at) (l.rest / 10))) stored in
    let same = ap length stored ∙ length-set l.text (l.end - 1) (48 + l.rest % 10) in
    let one = one_put l.text at l.end l.rest c.loop-end-test.true in
    (omega arith, same ∙ l.invariant.1, left ∙ sym one ∙ l.invariant.2)

pub shape_of-text : goal.shape_of-text
shape_of-text c = c.loop-end.invariant.1

pub returns : goal.returns
returns c =
    let l = c.loop-end in
    sym (none_left l.text c.args.at l.end l.rest c.loop-end-test.false) ∙ l.invariant.2
