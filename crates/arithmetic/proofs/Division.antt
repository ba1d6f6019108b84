-- What `div` hands to `nearest`, and why the answer, clamped, is the quotient. Assumes nothing.
use mathlib.Core.Bool.{true, false, true≢false}
use mathlib.Core.Path.{◌≡◌, refl, sym, ap, ◌∙◌}
use Prim.Native.Nat.{zero, suc, ◌^◌, ◌<◌}
use native.Mathlib.Omega.{arith}
use borrow.Author.Tests.{ltb-true, lt-ltb}
use lib.IntN.{ℤ, pos, negsuc, neg_ℤ, nat_abs, ◌-ℤ◌, +ℤ_idl}
use lib.Signed.{mag, lt_z, nat_abs-le}
use mir.Syntax.{w32, w64}
use mir.Val.{SFits, to_z, of_z}
use mir.Facts.{to_z-of_z, sfits_lit}
use Rattle.arithmetic.specs.Arithmetic.{clamp, nearest_z, quotient}
use Rattle.arithmetic.proofs.RoundedQuotients.{minus_size}
use Rattle.arithmetic.proofs.Laws.{wide, operand_same, result_fits, difference_exact}
use Rattle.arithmetic.proofs.Rounding.{Asked}

-- a cell's number with its sign turned, as the code holds it in 64 bits
abbrev opposite : ℤ → ℤ
opposite z = to_z w64 (of_z w64 (pos 0 -ℤ wide z))

pub opposite_fits : {z : ℤ} → SFits w32 z → SFits w64 (pos 0 -ℤ wide z)
opposite_fits h = result_fits difference_exact (sfits_lit {z = pos 0} tt) h

opposite_same : {z : ℤ} → SFits w32 z → opposite z ≡ neg_ℤ z
opposite_same {z} h = rw (to_z-of_z (opposite_fits h), operand_same h) (+ℤ_idl (neg_ℤ z))

-- ---- by the divisor

pub by_zero : (x : ℤ) {y : ℤ} → SFits w32 y → of_z w32 y ≡ 0 → pos 0 ≡ quotient x y
unfolding quotient
by_zero x hy e = rw (sym (to_z-of_z hy) ∙ ap (to_z w32) e)

above_zero : (y : ℤ) → (of_z w32 y ≡ 0 → ⊥) → lt_z y (pos 0) ≡ false → lt_z (pos 0) y ≡ true
above_zero (pos zero) nonzero left = absurd (nonzero refl)
above_zero (pos (suc n)) nonzero left = lt-ltb 0 (suc n) (omega arith)
above_zero (negsuc n) nonzero left = absurd (true≢false left)

below_zero_holds : (y : ℤ) → lt_z y (pos 0) ≡ true → lt_z (pos 0) (neg_ℤ y) ≡ true
below_zero_holds (pos n) taken = absurd (omega (arith, ltb-true n 0 taken))
below_zero_holds (negsuc n) taken = lt-ltb 0 (suc n) (omega arith)

quotient_above : (x y : ℤ) → lt_z (pos 0) y ≡ true → clamp (nearest_z x (nat_abs y)) ≡ quotient x y
unfolding quotient
quotient_above x (pos zero) above = absurd (true≢false (sym above))
quotient_above x (pos (suc n)) above = refl
quotient_above x (negsuc n) above = absurd (true≢false (sym above))

quotient_below : (x y : ℤ) → lt_z y (pos 0) ≡ true → clamp (nearest_z (neg_ℤ x) (nat_abs (neg_ℤ y))) ≡ quotient x y
unfolding quotient
quotient_below x (pos n) below = absurd (omega (arith, ltb-true n 0 below))
quotient_below x (negsuc n) below = refl

-- ---- what is handed over, and that its quotient is that of x and y

module _ {x y : ℤ} (hx : SFits w32 x) (hy : SFits w32 y) where
  tested : lt_z y (pos 0) ≡ lt_z (to_z w32 (of_z w32 y)) (pos 0)
  tested = rw (to_z-of_z hy)

  module _ (nonzero : of_z w32 y ≡ 0 → ⊥) (left : lt_z (to_z w32 (of_z w32 y)) (pos 0) ≡ false) where
    pub asked_above : Asked (wide x) (wide y)
    asked_above = rw (operand_same hx, operand_same hy) (nat_abs-le x hx.sfits, above_zero y nonzero (tested ∙ left), nat_abs-le y hy.sfits)

    pub rounded_above : clamp (nearest_z (wide x) (nat_abs (wide y))) ≡ quotient x y
    rounded_above = rw (operand_same hx, operand_same hy) (quotient_above x y (above_zero y nonzero (tested ∙ left)))

  module _ (taken : lt_z (to_z w32 (of_z w32 y)) (pos 0) ≡ true) where
    pub asked_below : Asked (opposite x) (opposite y)
    asked_below =
        rw (opposite_same hx, opposite_same hy, minus_size x, minus_size y)
        (nat_abs-le x hx.sfits, below_zero_holds y (tested ∙ taken), nat_abs-le y hy.sfits)

    pub rounded_below : clamp (nearest_z (opposite x) (nat_abs (opposite y))) ≡ quotient x y
    rounded_below = rw (opposite_same hx, opposite_same hy) (quotient_below x y (tested ∙ taken))

-- n is what `nearest` answered, and r what `clamp` answered
pub divided : {m n r q : ℤ} → clamp m ≡ q → mag n < 2 ^ 63 → n ≡ m → mag r < 2 ^ 31 → r ≡ clamp (to_z w64 (of_z w64 n)) → to_z w32 (of_z w32 r) ≡ q
divided {n} rounded hn nearest hr clamped =
    to_z-of_z {w = w32} (record { sfits = hr }) ∙ clamped ∙ ap clamp (to_z-of_z {w = w64} {z = n} (record { sfits = hn }) ∙ nearest) ∙ rounded
