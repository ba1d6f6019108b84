use mathlib.Core.Path.{◌≡◌, refl, sym, ap, ◌∙◌}
use mathlib.Core.Bool.{cond}
use Prim.Native.Nat.{ℕ, suc, ◌+◌, ◌-◌}
use native.Mathlib.Omega.{arith}
use lib.ListN.{length, get_or}
use Rattle.std.specs.Prelude.{Err}
use Rattle.refusals.specs.declared.Refusal.TheVariants.{OffsetBound}
use Rattle.syntax.specs.Ranges.{cell_numbers}
use Rattle.columns.specs.Figures.{figure_at}
use Rattle.columns.proofs.Columns as columns
use Rattle.columns.proofs.figures.fill.Goals as goal
use Rattle.columns.proofs.figures.fill.Goals.{then-no_at, else-no_at}

pub loop-q-init : goal.loop-q-init
loop-q-init c =
    let a = c.args in
    record {
      before = λ p h. refl;
      rule = λ p l h. absurd (omega arith);
      told = columns.no_begin a.rows.kinds.now a.rows.numbers.now a.figures.now (cell_numbers a.inputs.now) a.output a.figures.now _ refl;
    }

pub loop-q-preserved : goal.loop-q-preserved
loop-q-preserved c =
    let a = c.args in
    let turn = c.loop-q in
    let row = turn.q - 1 in
    let next : suc row ≡ turn.q = omega arith in
    let figure =
    c.figure_at.ensures.0
    ∙ ap (λ (m : ℕ). figure_at a.rows.kinds.now a.rows.numbers.now m row (get_or turn.figures (row + 1) 0) (get_or turn.figures (get_or a.rows.ends.now (row + 1) 0) 0))
    (turn.invariant.before row (omega arith)) in
    let answer : c.if-no_at.answer ≡ cond c.no_at.result (Err (OffsetBound (row + 1))) turn.answer =
    elim c.if-no_at.branch [
      | then-no_at w ↦ w.answer-is ∙ ap (λ b. cond b (Err (OffsetBound (row + 1))) turn.answer) (sym w.if-no_at.true)
      | else-no_at w ↦ w.answer-is ∙ ap (λ b. cond b (Err (OffsetBound (row + 1))) turn.answer) (sym w.if-no_at.false)
    ] in
    record {
      before = columns.before_again a.figures.now turn.figures turn.q row _ next turn.invariant.before;
      rule = columns.column_again (length a.rows.kinds.now) a.rows.ends.now turn.figures
          (λ (p x y : ℕ). figure_at a.rows.kinds.now a.rows.numbers.now (get_or a.figures.now p 0) p x y) turn.q row _ a.rows.ended.within next
          (omega arith) (omega arith) turn.invariant.rule figure;
      told = columns.no_again a.rows.kinds.now a.rows.numbers.now a.figures.now (cell_numbers a.inputs.now) a.output turn.figures turn.q row _
          turn.answer _ _ next (omega arith) turn.invariant.before turn.invariant.told c.no_at.ensures answer;
    }
