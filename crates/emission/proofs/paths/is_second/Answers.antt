-- `is_second` meets its contract: what was found at the step is what the path has there.
use mathlib.Core.Path.{refl}
use Rattle.emission.specs.Laws.PathSteps.{not_second}
use Rattle.emission.specs.Laws.Indices.{second_by}
use Rattle.emission.proofs.paths.is_second.Goals as goal

pub returns-in_default : goal.returns-in_default
returns-in_default c = second_by _ c.args.path.depth c.args.j _ _ c.step_at.ensures c.in_default.is _ refl

pub returns-in-SecondPart : goal.returns-in-SecondPart
returns-in-SecondPart c = second_by _ c.args.path.depth c.args.j _ _ c.step_at.ensures (rw c.in-SecondPart.is at c.in-Some.is) _ refl

pub returns-in_default-matches : goal.returns-in_default-matches
returns-in_default-matches c =
    second_by _ c.args.path.depth c.args.j _ _ c.step_at.ensures c.in-Some.is _ (not_second _ c.in_default-matches.not-SecondPart)
