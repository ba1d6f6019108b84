-- `max` is the library's.
use mathlib.Core.Path.{ap₂, ◌∙◌}
use mir.Facts.{to_z-of_z}
use mir.Syntax.{w32}
use mir.Val.{SFits}
use Rattle.arithmetic.specs.Arithmetic.{greater}
use Rattle.arithmetic.proofs.Saturation.{the_greater}
use Rattle.arithmetic.proofs.max.Goals as goal

pub returns : goal.returns
returns c =
    let fits : SFits w32 c.max.result = record { sfits = c.max.type_inv } in
    to_z-of_z fits ∙ c.max.ensures.value ∙ the_greater _ _ ∙ ap₂ greater (to_z-of_z c.ranges.x) (to_z-of_z c.ranges.y)
