-- Negation in 64 bits of numbers that fit 32. Assumes nothing.
use mathlib.Core.Path.{◌≡◌, sym, ap, subst, ◌∙◌}
use lib.IntN.{ℤ, pos, neg_ℤ, ◌-ℤ◌, +ℤ_idl}
use mir.Syntax.{w64}
use mir.Val.{SFits, to_z, of_z}
use mir.ValLaws.{to_z-of_z}

-- what the code's `-y` is, where y stands for z
module _ {y z : ℤ} (e : y ≡ z) (h : SFits w64 (neg_ℤ z)) where
  negated : pos 0 -ℤ y ≡ neg_ℤ z
  negated = ap (λ (x : ℤ). pos 0 -ℤ x) e ∙ +ℤ_idl (neg_ℤ z)

  pub negated_fits : SFits w64 (pos 0 -ℤ y)
  negated_fits = subst (SFits w64) (sym negated) h

  pub negated_back : to_z w64 (of_z w64 (pos 0 -ℤ y)) ≡ neg_ℤ z
  negated_back = to_z-of_z w64 (pos 0 -ℤ y) negated_fits ∙ negated
