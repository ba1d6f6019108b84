-- `neg` is the library's, which saturates as cells are clamped.
use mathlib.Core.Path.{ap, ◌∙◌}
use mir.Facts.{to_z-of_z}
use mir.Syntax.{w32}
use mir.Val.{SFits}
use Rattle.arithmetic.specs.Arithmetic.{negation}
use Rattle.arithmetic.proofs.Saturation.{saturated}
use Rattle.arithmetic.proofs.neg.Goals as goal

pub returns : goal.returns
unfolding negation
returns c =
    let fits : SFits w32 c.saturating_neg.result = record { sfits = c.saturating_neg.type_inv } in
    to_z-of_z fits ∙ c.saturating_neg.ensures ∙ saturated _ ∙ ap negation (to_z-of_z c.ranges.x)
