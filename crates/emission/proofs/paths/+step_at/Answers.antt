use native.Mathlib.Omega.{arith}
use mathlib.Core.Path.{ap, ◌∙◌}
use Rattle.emission.specs.Laws.PathSteps.{found_none, found_own, found_deeper}
use Rattle.emission.specs.Changes.{change_of}
use Rattle.emission.proofs.paths.+step_at.Goals as goal

pub returns-then-path-eq0 : goal.returns-then-path-eq0
returns-then-path-eq0 t c = found_none _ _ _ c.if-path-eq0.true

pub returns-then-j-made : goal.returns-then-j-made
returns-then-j-made t c =
    found_own _ c.args.path.depth c.args.j _ c.if-path-eq0.false (c.change_of-change.ensures ∙ ap change_of c.kind_in.ensures) _ _
    c.number_in.ensures (omega (arith, c.made.ensures)) c.own_step.ensures

pub returns : goal.returns
returns t c =
    found_deeper _ c.args.path.depth c.args.j _ c.if-path-eq0.false (c.change_of-change.ensures ∙ ap change_of c.kind_in.ensures) _ _ _
    c.made-2.ensures c.gone.ensures (omega (arith, c.made.ensures)) c.step_at.ensures
