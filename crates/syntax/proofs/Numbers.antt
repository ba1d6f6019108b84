-- A row's number, signed in memory, as a natural number. Assumes nothing.
use mathlib.Core.Path.{◌≡◌, ap, ◌∙◌}
use Prim.Native.Nat.{ℕ}
use lib.IntN.{ℤ}
use mir.Syntax.{w32}
use mir.Val.{SFits, to_z, of_z}
use mir.ValLaws.{to_z-of_z}
use Rattle.syntax.specs.Ranges.{as_natural}

module _ (z : ℤ) (h : SFits w32 z) where
  same : to_z w32 (of_z w32 z) ≡ z
  same = to_z-of_z w32 z h

  pub natural_of : {n : ℕ} → n ≡ as_natural (to_z w32 (of_z w32 z)) → n ≡ as_natural z
  natural_of e = e ∙ ap as_natural same
