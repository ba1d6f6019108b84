use mathlib.Core.Path.{◌≡◌, ◌∙◌}
use Prim.Native.Nat.{◌+◌}
use native.Mathlib.Omega.{arith}
use native.Mathlib.Nat.{not-suc-le-zero}
use lib.ListN.{length, length-set}
use lib.Seq.{get_or-set_same, get_or-set_other}
use borrow.Author.Rules.{rules}
use Rattle.own_words.proofs.Rows.{put_next, row_word}
use Rattle.own_words.proofs.row_with.Goals as goal

pub loop-i-init : goal.loop-i-init
loop-i-init c =
    let a = c.args in
    let long : length a.row ≡ 19 = search rules in (
      omega arith,
      length-set a.row 8 (48 + length a.letters.now) ∙ long,
      get_or-set_same a.row 8 (48 + length a.letters.now) 0 (omega (arith, long)),
      (λ j h. absurd (not-suc-le-zero h)),
    )

pub loop-i-preserved : goal.loop-i-preserved
loop-i-preserved c =
    let turn = c.loop-i in
    let letter = c.letter_or_blank in (
      omega (arith, c.loop-i-test.true),
      length-set turn.own turn.i letter.result ∙ turn.invariant.1,
      get_or-set_other turn.own turn.i 8 letter.result 0 (λ e. omega (arith, e, c.loop-i-test.true)) ∙ turn.invariant.2,
      put_next turn.own c.args.letters.now turn.i letter.result
          (omega (arith, turn.invariant.1, c.loop-i-test.true)) letter.ensures turn.invariant.3,
    )

pub returns : goal.returns
returns c =
    let turn = c.loop-i in
    row_word turn.own c.args.letters.now turn.invariant.1 turn.invariant.2 c.requires
    (λ j h. turn.invariant.3 j (omega (arith, h, c.loop-i-test.false)))
