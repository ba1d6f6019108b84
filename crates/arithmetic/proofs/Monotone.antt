-- [4.3] For each divisor the quotient is monotone in the dividend: rising, or falling where the divisor is below zero. Nothing here is a
-- definition to believe; assumes nothing.
use Rattle.std.specs.Prelude.{Bool, true, false, cond, ◌≡◌, refl, ℕ, zero, suc, ◌≤◌, ◌<◌, ℤ, pos, negsuc, neg_ℤ, ◌≤ℤ◌, ◌<ℤ◌}
use Rattle.std.proofs.Common.{zero-le, zero-lt-suc, arith, leb→le, le→leb}
use Rattle.std.specs.Int.Signed.{lt_z, le_z_yes, lt_z_yes, lt_z_no, ≤ℤ_refl, <ℤ-≤ℤ_trans, clash_ℤ}
use Rattle.arithmetic.specs.Arithmetic.{lowest, highest, clamp, nearest, nearest_z, quotient}
use Rattle.arithmetic.proofs.RoundedQuotients.{nearest_ordered}

minus_below : (m n : ℕ) → neg_ℤ (pos m) ≤ℤ pos n
minus_below zero n = le_z_yes (le→leb 0 n zero-le)
minus_below (suc m) n = le_z_yes tt

minus_ordered : {m n : ℕ} → m ≤ n → neg_ℤ (pos n) ≤ℤ neg_ℤ (pos m)
minus_ordered {m = zero} {n} le = minus_below n 0
minus_ordered {m = suc m} {n = zero} le = absurd (omega arith)
minus_ordered {m = suc m} {n = suc n} le = le_z_yes (le→leb m n (omega arith))

minus_falls : {x y : ℤ} → x ≤ℤ y → neg_ℤ y ≤ℤ neg_ℤ x
minus_falls {x = pos a} {y = pos b} le = minus_ordered (leb→le a b le.le)
minus_falls {x = pos a} {y = negsuc b} le = absurd le.le
minus_falls {x = negsuc a} {y = pos b} le = minus_below b (suc a)
minus_falls {x = negsuc a} {y = negsuc b} le = le_z_yes (le→leb (suc b) (suc a) (omega (arith, leb→le b a le.le)))

nearest_rises : {x x' : ℤ} {b : ℕ} → 0 < b → x ≤ℤ x' → nearest_z x b ≤ℤ nearest_z x' b
nearest_rises {x = pos a} {x' = pos a'} {b} h le = le_z_yes (le→leb (nearest a b) (nearest a' b) (nearest_ordered h (leb→le a a' le.le)))
nearest_rises {x = pos a} {x' = negsuc a'} h le = absurd le.le
nearest_rises {x = negsuc a} {x' = pos a'} {b} h le = minus_below (nearest (suc a) b) (nearest a' b)
nearest_rises {x = negsuc a} {x' = negsuc a'} h le = minus_ordered (nearest_ordered h (omega (arith, leb→le a' a le.le)))

tested_less : {x y : ℤ} → lt_z x y ≡ true → x <ℤ y
tested_less e = lt_z_yes (rw e tt)

tested_most : {x y : ℤ} → lt_z x y ≡ false → y ≤ℤ x
tested_most e = lt_z_no (rw e tt)

pub clamp_rises : {x y : ℤ} → x ≤ℤ y → clamp x ≤ℤ clamp y
unfolding clamp
clamp_rises {x} {y} le = by_tests (lt_z x lowest) (lt_z highest x) (lt_z y lowest) (lt_z highest y) refl refl refl refl
  where
    by_tests : (low high low' high' : Bool) → lt_z x lowest ≡ low → lt_z highest x ≡ high → lt_z y lowest ≡ low' → lt_z highest y ≡ high'
        → cond low lowest (cond high highest x) ≤ℤ cond low' lowest (cond high' highest y)
    by_tests true high true high' l h l' h' = ≤ℤ_refl lowest
    by_tests true high false true l h l' h' = le_z_yes tt
    by_tests true high false false l h l' h' = tested_most l'
    by_tests false high true high' l h l' h' = clash_ℤ (<ℤ-≤ℤ_trans (tested_less {y = lowest} l') (tested_most l)) le
    by_tests false true false true l h l' h' = ≤ℤ_refl highest
    by_tests false true false false l h l' h' = clash_ℤ (<ℤ-≤ℤ_trans (tested_less {x = highest} h) le) (tested_most h')
    by_tests false false false true l h l' h' = tested_most h
    by_tests false false false false l h l' h' = le

-- A greater dividend gives no lesser quotient by a number that is not below zero,
pub quotient_rises : (b : ℕ) {x x' : ℤ} → x ≤ℤ x' → quotient x (pos b) ≤ℤ quotient x' (pos b)
unfolding quotient
quotient_rises zero le = ≤ℤ_refl (pos 0)
quotient_rises (suc b) le = clamp_rises (nearest_rises (zero-lt-suc b) le)

-- and no greater one by a number that is.
pub quotient_falls : (b : ℕ) {x x' : ℤ} → x ≤ℤ x' → quotient x' (negsuc b) ≤ℤ quotient x (negsuc b)
unfolding quotient
quotient_falls b le = clamp_rises (nearest_rises (zero-lt-suc b) (minus_falls le))
