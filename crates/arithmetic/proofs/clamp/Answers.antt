-- `clamp` is the library's, in 64 bits; what it answers is a number of a cell, so the cast loses nothing.
use mathlib.Core.Path.{◌≡◌, sym, ap, subst, ◌∙◌}
use mir.Facts.{to_z-of_z}
use mir.Syntax.{w32, w64}
use lib.IntN.{ℤ}
use mir.Val.{SFits, to_z, of_z}
use Rattle.arithmetic.specs.Arithmetic.{clamp}
use Rattle.arithmetic.proofs.CellLaws.{clamp_fits}
use Rattle.arithmetic.proofs.Saturation.{between}
use Rattle.arithmetic.proofs.clamp.Goals as goal

pub returns : goal.returns
returns c =
    let fits : SFits w64 c.clamp.result = record { sfits = c.clamp.type_inv } in
    let clamped : c.clamp.result ≡ clamp c.args.z = c.clamp.ensures.value ∙ between _ ∙ ap clamp (to_z-of_z c.ranges.z) in
    ap (λ (y : ℤ). to_z w32 (of_z w32 y)) (to_z-of_z fits)
    ∙ to_z-of_z (subst (SFits w32) (sym clamped) (clamp_fits c.args.z)) ∙ clamped
