-- `min` is the library's.
use mathlib.Core.Path.{ap₂, ◌∙◌}
use mir.Facts.{to_z-of_z}
use mir.Syntax.{w32}
use mir.Val.{SFits}
use Rattle.arithmetic.specs.Arithmetic.{lesser}
use Rattle.arithmetic.proofs.Saturation.{the_lesser}
use Rattle.arithmetic.proofs.min.Goals as goal

pub returns : goal.returns
returns c =
    let fits : SFits w32 c.min.result = record { sfits = c.min.type_inv } in
    to_z-of_z fits ∙ c.min.ensures.value ∙ the_lesser _ _ ∙ ap₂ lesser (to_z-of_z c.ranges.x) (to_z-of_z c.ranges.y)
