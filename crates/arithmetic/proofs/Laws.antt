-- Why taking two cells to 64 bits, an exact operation there and `clamp` give the clamped exact result: one law for `add`, `sub`
-- and `mul`. The code holds a signed number as bits: `of_z w z` are those of z, and `to_z w` reads them. Assumes nothing.
use mathlib.Core.Bool.{Bool, true, false, cond}
use mathlib.Core.Path.{◌≡◌, ap, ap₂, ◌∙◌}
use Prim.Native.Nat.{ℕ, zero, suc, ◌+◌, ◌-◌, ◌*◌, ◌/◌, ◌^◌, ◌≤◌, ◌<◌, zero-le}
use native.Mathlib.Nat.{le-suc, mul-le-mul}
use native.Mathlib.Omega.{arith}
use lib.Dec.{ltb}
use lib.IntN.{ℤ, pos, negsuc, neg_ℤ, nat_abs, sub_ℕ, ◌+ℤ◌, ◌-ℤ◌, ◌*ℤ◌}
use lib.Signed.{mag, quot_z, nat_abs-le}
use mir.Syntax.{w32, w64}
use mir.Val.{SFits, to_z, of_z}
use mir.Facts.{to_z-of_z, sfits_widen, sfits_to_z, Fits-of_z}
use Rattle.arithmetic.specs.Arithmetic.{clamp}

-- a cell's number as the code holds it in 64 bits
abbrev pub wide : ℤ → ℤ
wide z = to_z w64 (of_z w64 (to_z w32 (of_z w32 z)))

pub operand_fits : {z : ℤ} → SFits w32 z → SFits w64 (to_z w32 (of_z w32 z))
operand_fits h = sfits_widen tt (sfits_to_z (Fits-of_z h))

pub operand_same : {z : ℤ} → SFits w32 z → wide z ≡ z
operand_same h = to_z-of_z (operand_fits h) ∙ to_z-of_z h

-- 64 bits hold what f gives of any two cells
pub record Exact (f : ℤ → ℤ → ℤ) : Type 0 where
  pub exact : (x y : ℤ) → SFits w32 x → SFits w32 y → SFits w64 (f x y)

module _ {f : ℤ → ℤ → ℤ} (e : Exact f) {x y : ℤ} (hx : SFits w32 x) (hy : SFits w32 y) where
  result_same : f (wide x) (wide y) ≡ f x y
  result_same = ap₂ f (operand_same hx) (operand_same hy)

  pub result_fits : SFits w64 (f (wide x) (wide y))
  result_fits = rw result_same (e.exact x y hx hy)

  -- r is what `clamp` answered
  pub result_clamped : {r : ℤ} → mag r < 2 ^ 31 → r ≡ clamp (to_z w64 (of_z w64 (f (wide x) (wide y)))) → to_z w32 (of_z w32 r) ≡ clamp (f x y)
  result_clamped hr p = to_z-of_z {w = w32} (record { sfits = hr }) ∙ p ∙ ap clamp (to_z-of_z result_fits ∙ result_same)

-- ---- the three operations are exact; `mag` is n both of n and of -(n + 1)

pub negation_mag : (z : ℤ) → mag (neg_ℤ z) ≤ suc (mag z)
negation_mag (pos zero) = zero-le
negation_mag (pos (suc n)) = omega arith
negation_mag (negsuc n) = omega arith

cond_mag : (b : Bool) (x y : ℤ) → mag (cond b x y) ≤ mag x + mag y
cond_mag true x y = omega arith
cond_mag false x y = omega arith

sub_mag : (a b : ℕ) → mag (sub_ℕ a b) ≤ a + b
sub_mag a b = omega (arith, cond_mag (ltb a b) (negsuc (b - suc a)) (pos (a - b)))

pub sum_mag : (x y : ℤ) → mag (x +ℤ y) ≤ suc (mag x + mag y)
sum_mag (pos a) (pos b) = omega arith
sum_mag (pos a) (negsuc b) = omega (arith, sub_mag a (suc b))
sum_mag (negsuc a) (pos b) = omega (arith, sub_mag b (suc a))
sum_mag (negsuc a) (negsuc b) = omega arith

-- the product and the quotient go by the signs
pub signs_mag : (x y : ℤ) → (mag (x *ℤ y) ≤ suc (nat_abs x * nat_abs y)) × (mag (quot_z x y) ≤ suc (nat_abs x / nat_abs y))
signs_mag (pos a) (pos b) = (le-suc _, le-suc _)
signs_mag (pos a) (negsuc b) = (negation_mag (pos (a * suc b)), negation_mag (pos (a / suc b)))
signs_mag (negsuc a) (pos b) = (negation_mag (pos (suc a * b)), negation_mag (pos (suc a / b)))
signs_mag (negsuc a) (negsuc b) = (le-suc _, le-suc _)

pub sum_exact : Exact ◌+ℤ◌
sum_exact = record { exact = λ x y hx hy. record { sfits = omega (arith, sum_mag x y) } }

pub difference_exact : Exact ◌-ℤ◌
difference_exact = record { exact = λ x y hx hy. record { sfits = omega (arith, sum_mag x (neg_ℤ y), negation_mag y) } }

pub product_exact : Exact ◌*ℤ◌
product_exact = record {
  exact = λ x y hx hy.
      let h : nat_abs x * nat_abs y ≤ 2 ^ 31 * 2 ^ 31 = mul-le-mul (nat_abs-le x hx.sfits) (nat_abs-le y hy.sfits) in
      record { sfits = omega (arith, (signs_mag x y).0) };
}
