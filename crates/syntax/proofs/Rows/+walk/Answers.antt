use Rattle.std.proofs.Common.{rules, Ok, Err}
use mathlib.Core.Bool.{true, false}
use mathlib.Core.Path.{◌≡◌, sym, ap, ◌∙◌}
use native.Mathlib.Omega.{arith}
use Rattle.syntax.proofs.WalkSteps as steps
use Rattle.syntax.proofs.Rows.+walk.Goals as goal

pub returns-in_err-count-clause-result : goal.returns-in_err-count-clause-result
returns-in_err-count-clause-result t c =
    let no : c.from_residual.result ≡ Err c.in_err-count.field-0.0 = search rules in
    λ ds. steps.walk_no _ _ c.loop-row.invariant.reached c.requires.0 c.loop-row-test.true (search rules) c.natural-number.ensures.0 c.ask.ensures c.in_err-count.was ds ∙ rw no

pub returns-then-count-eq0-clause-result : goal.returns-then-count-eq0-clause-result
returns-then-count-eq0-clause-result t c =
    steps.walk_leaf _ _ c.loop-row.invariant.reached c.requires.0 c.loop-row-test.true (search rules) c.natural-number.ensures.0 c.ask.ensures (c.in_ok-count.was ∙ ap Ok c.if-count-eq0.true)

pub loop-init : goal.loop-init
loop-init t c =
    record {
      further = omega arith;
      within = omega arith;
      reached = steps.walk_row _ _ c.loop-row.invariant.reached c.requires.0 c.loop-row-test.true (search rules) c.natural-number.ensures.0 c.ask.ensures c.in_ok-count.was (omega arith);
    }

pub walk-requires : goal.walk-requires
walk-requires t c =
    let inner = c.loop.invariant in (
      omega (arith, inner.further, inner.within, c.loop-row.invariant.further),
      (
        c.requires.0,
        inner.within,
        rw c.operand.ensures (steps.operand_bounded c.loop-row.next _ _ _ _ false c.loop-row.invariant.bounded (sym c.ask.ensures ∙ c.in_ok-count.was)),
        c.requires.3,
      ),
    )

pub returns-in_err-row-clause-result : goal.returns-in_err-row-clause-result
returns-in_err-row-clause-result t c =
    let no : c.from_residual-in_err-row.result ≡ Err c.in_err-row.field-0.0 = search rules in
    λ ds. steps.operand_no _ _ _ c.loop.invariant.reached (omega arith) c.operand.ensures _ c.walk.ensures.result c.in_err-row.was ds ∙ rw no

pub loop-preserved : goal.loop-preserved
loop-preserved t c =
    let inner = c.loop.invariant in
    record {
      further = omega (arith, inner.further, c.in_ok-row.ensures.bounds.0);
      within = c.in_ok-row.ensures.bounds.1;
      reached = steps.operand_passed _ _ _ inner.reached (omega arith) c.operand.ensures _ c.walk.ensures.result c.in_ok-row.was (omega arith);
    }

pub loop-row-preserved : goal.loop-row-preserved
loop-row-preserved t c =
    let inner = c.loop.invariant in
    record {
      further = omega (arith, inner.further);
      within = inner.within;
      bounded = rw c.operand-next.ensures (steps.operand_bounded c.loop-row.next _ _ _ _ true c.loop-row.invariant.bounded (sym c.ask.ensures ∙ c.in_ok-count.was));
      reached = steps.last_due _ _ _ inner.reached (omega arith) c.operand-next.ensures;
    }

pub returns-clause-result : goal.returns-clause-result
returns-clause-result t c = steps.walk_none _ _ c.loop-row.invariant.reached c.loop-row-test.false
