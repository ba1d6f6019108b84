-- Why the code's `nearest` is the definition's: an odd quotient, added to twice the remainder, tips an exact half, and below zero all
-- signs turn. Then, that 64 bits hold every number that it makes. Assumes nothing.
use mathlib.Core.Bool.{Bool, true, false, cond, false≢true}
use mathlib.Core.Path.{◌≡◌, refl, sym, ap, ap₂, ◌∙◌}
use Prim.Native.Nat.{ℕ, zero, suc, ◌+◌, ◌*◌, ◌/◌, ◌%◌, ◌^◌, ◌≤◌, ◌<◌, zero-le}
use native.Mathlib.Nat.{add-zero, div-le_self}
use native.Mathlib.Omega.{arith}
use borrow.Author.Tests.{ltb-true, ltb-false, lt-ltb, le-ltb}
use lib.Dec.{ltb, leb-suc-suc}
use lib.IntN.{ℤ, pos, negsuc, neg_ℤ, nat_abs, ◌+ℤ◌, ◌-ℤ◌, ◌*ℤ◌, +ℤ_idl, neg_ℤ-+ℤ}
use lib.Signed.{mag, lt_z, quot_z, rem_z, mag_rem}
use mir.Syntax.{w64}
use mir.Val.{SFits, to_z, of_z}
use mir.Facts.{to_z-of_z}
use Rattle.arithmetic.specs.Arithmetic.{nearest, nearest_z}
use Rattle.arithmetic.proofs.Laws.{negation_mag, sum_mag, signs_mag}

-- the quotient, to which f gives a sign, and twice the remainder
tipped : (f : ℕ → ℤ) (whole twice b : ℕ)
    → cond (ltb b (twice + whole % 2)) (f (whole + 1)) (f whole)
    ≡ f (cond (ltb b twice) (whole + 1) (cond (ltb twice b) whole (whole + whole % 2)))
tipped f whole twice b = by_tests (ltb b twice) (ltb twice b) (whole % 2) refl refl refl
  where
    by_tests : (more less : Bool) (odd : ℕ) → ltb b twice ≡ more → ltb twice b ≡ less → whole % 2 ≡ odd
        → cond (ltb b (twice + odd)) (f (whole + 1)) (f whole) ≡ f (cond more (whole + 1) (cond less whole (whole + odd)))
    by_tests true less odd m l o = rw (lt-ltb b (twice + odd) (omega (arith, ltb-true b twice m)))
    by_tests false true odd m l o = rw (le-ltb b (twice + odd) (omega (arith, ltb-true twice b l)))
    by_tests false false zero m l o = rw (le-ltb b (twice + 0) (omega (arith, ltb-false b twice m))) (ap f (sym (add-zero whole)))
    by_tests false false (suc zero) m l o = rw (lt-ltb b (twice + 1) (omega (arith, ltb-false twice b l)))
    by_tests false false (suc (suc odd)) m l o = absurd (omega arith)

-- a number that is not above zero
abbrev minus : ℕ → ℤ
minus n = neg_ℤ (pos n)

minus_rest : (n : ℕ) → rem_z (minus n) (pos 2) ≡ minus (n % 2)
minus_rest zero = refl
minus_rest (suc n) = refl

minus_twice : (n : ℕ) → pos 2 *ℤ minus n ≡ minus (2 * n)
minus_twice zero = refl
minus_twice (suc n) = refl

minus_sum : (m n : ℕ) → minus m +ℤ minus n ≡ minus (m + n)
minus_sum m n = sym (neg_ℤ-+ℤ (pos m) (pos n))

not_above : (b n : ℕ) → lt_z (pos (suc b)) (minus n) ≡ false
not_above b zero = le-ltb (suc b) 0 zero-le
not_above b (suc n) = refl

below : (b n : ℕ) → lt_z (minus n) (negsuc b) ≡ ltb (suc b) n
below b zero = sym (le-ltb (suc b) 0 zero-le)
below b (suc n) = sym (leb-suc-suc (suc b) n)

-- what the code tests: twice the remainder, and the 1 or −1 of an odd quotient
abbrev twice : ℤ → ℤ → ℤ
twice x y = pos 2 *ℤ rem_z x y +ℤ rem_z (quot_z x y) (pos 2)

-- what the two tests of the code choose
stepped : (x y : ℤ) → lt_z (pos 0) y ≡ true
    → cond (lt_z y (twice x y)) (quot_z x y +ℤ pos 1) (cond (lt_z (twice x y) (neg_ℤ y)) (quot_z x y -ℤ pos 1) (quot_z x y)) ≡ nearest_z x (nat_abs y)
unfolding nearest
stepped x (pos zero) h = absurd (false≢true h)
stepped (pos a) (pos (suc b)) h = tipped pos (a / suc b) (2 * (a % suc b)) (suc b)
stepped (negsuc a) (pos (suc b)) h =
    rw (
      minus_rest (suc a / suc b),
      minus_twice (suc a % suc b),
      minus_sum (2 * (suc a % suc b)) (suc a / suc b % 2),
      minus_sum (suc a / suc b) 1,
      not_above b (2 * (suc a % suc b) + suc a / suc b % 2),
      below b (2 * (suc a % suc b) + suc a / suc b % 2),
    )
    (tipped minus (suc a / suc b) (2 * (suc a % suc b)) (suc b))
stepped x (negsuc b) h = absurd (false≢true h)

-- ---- 64 bits hold what the code makes of x and y

size_mag : (z : ℤ) → (mag z ≤ nat_abs z) × (nat_abs z ≤ suc (mag z))
size_mag (pos n) = (omega arith, omega arith)
size_mag (negsuc n) = (omega arith, omega arith)

-- what the code asks of x and y
abbrev pub Asked : ℤ → ℤ → Type 0
Asked x y = (nat_abs x ≤ 2 ^ 31) × (lt_z (pos 0) y ≡ true) × (nat_abs y ≤ 2 ^ 31)

-- said of any divisor d, and of any step k that is not above 1, since that is all that it takes
pub record AllFit (x y : ℤ) : Type 0 where
  pub divisor : 0 < of_z w64 y
  pub whole : SFits w64 (quot_z x y)
  pub rest : SFits w64 (rem_z x y)
  pub double : SFits w64 (pos 2 *ℤ rem_z x y)
  pub half : (d : ℤ) → SFits w64 (quot_z (quot_z x y) d)
  pub odd : (d : ℤ) → SFits w64 (rem_z (quot_z x y) d)
  pub counted : (d : ℤ) → SFits w64 (pos 2 *ℤ rem_z x y +ℤ rem_z (quot_z x y) d)
  pub above : (k : ℕ) → k ≤ 1 → SFits w64 (quot_z x y +ℤ pos k)
  pub opposite : SFits w64 (pos 0 -ℤ y)
  pub under : (k : ℕ) → k ≤ 1 → SFits w64 (quot_z x y -ℤ pos k)

divisor_held : (y : ℤ) → lt_z (pos 0) y ≡ true → 0 < of_z w64 y
divisor_held (pos n) h = ltb-true 0 n h
divisor_held (negsuc n) h = absurd (false≢true h)

pub all_fit : (x y : ℤ) → Asked x y → AllFit x y
all_fit x y pre = record {
  divisor = divisor_held y pre.1;
  whole = record { sfits = omega (arith, whole_few) };
  rest = record { sfits = omega (arith, rest_few) };
  double = record { sfits = omega (arith, double_few) };
  half = λ d. record { sfits = omega (arith, (signs_mag (quot_z x y) d).1, div-le_self (nat_abs (quot_z x y)) (nat_abs d), (size_mag (quot_z x y)).1, whole_few) };
  odd = λ d. record { sfits = omega (arith, odd_few d) };
  counted = λ d. record { sfits = omega (arith, sum_mag (pos 2 *ℤ rem_z x y) (rem_z (quot_z x y) d), double_few, odd_few d) };
  above = λ k le. record { sfits = omega (arith, sum_mag (quot_z x y) (pos k), whole_few) };
  opposite = record { sfits = omega (arith, sum_mag (pos 0) (neg_ℤ y), negation_mag y, (size_mag y).0, pre.2) };
  under = λ k le. record { sfits = omega (arith, sum_mag (quot_z x y) (neg_ℤ (pos k)), negation_mag (pos k), whole_few) };
}
  where
    whole_few : mag (quot_z x y) ≤ suc (2 ^ 31)
    whole_few = omega (arith, (signs_mag x y).1, div-le_self (nat_abs x) (nat_abs y), pre.0)

    rest_few : mag (rem_z x y) ≤ 2 ^ 31
    rest_few = omega (arith, mag_rem x y, (size_mag x).0, pre.0)

    double_few : mag (pos 2 *ℤ rem_z x y) ≤ 2 ^ 33
    double_few = omega (arith, (signs_mag (pos 2) (rem_z x y)).0, (size_mag (rem_z x y)).1, rest_few)

    odd_few : (d : ℤ) → mag (rem_z (quot_z x y) d) ≤ suc (2 ^ 31)
    odd_few d = omega (arith, mag_rem (quot_z x y) d, whole_few)

-- a number as the code holds it
abbrev held : ℤ → ℤ
held z = to_z w64 (of_z w64 z)

-- what the code holds: the quotient, twice the remainder, and its answer by what its two tests said
module _ (x y : ℤ) where
  abbrev held_whole : ℤ
  held_whole = held (quot_z (held x) (held y))

  abbrev held_twice : ℤ
  held_twice = held (held (pos 2 *ℤ held (rem_z (held x) (held y))) +ℤ held (rem_z held_whole (pos 2)))

  abbrev held_answer : Bool → Bool → ℤ
  held_answer beyond below = cond beyond (held (held_whole +ℤ pos 1)) (cond below (held (held_whole -ℤ pos 1)) held_whole)

pub answered : {x y : ℤ} {beyond below : Bool} → SFits w64 x → SFits w64 y → Asked x y
    → lt_z (held y) (held_twice x y) ≡ beyond → lt_z (held_twice x y) (held (pos 0 -ℤ held y)) ≡ below
    → held_answer x y beyond below ≡ nearest_z x (nat_abs y)
answered {x} {y} hx hy pre first second =
    let fit = all_fit x y pre in
    ap₂ (held_answer x y) (sym first) (sym second)
    ∙ rw (
      to_z-of_z hx,
      to_z-of_z hy,
      to_z-of_z fit.whole,
      to_z-of_z fit.rest,
      to_z-of_z fit.double,
      to_z-of_z (fit.odd (pos 2)),
      to_z-of_z (fit.counted (pos 2)),
      to_z-of_z (fit.above 1 (omega arith)),
      to_z-of_z fit.opposite,
      to_z-of_z (fit.under 1 (omega arith)),
      +ℤ_idl (neg_ℤ y),
    )
    (stepped x y pre.1)
