-- Putting a number: its sign, and its digits from the last to the first. Assumes nothing.
use mathlib.Core.Bool.{Bool, true, false, true≢false}
use mathlib.Core.List.{List, [], ◌∷◌, ◌++◌}
use mathlib.Core.Path.{◌≡◌, refl, sym, ap, ◌∙◌}
use Prim.Native.Nat.{ℕ, zero, suc, ◌+◌, ◌-◌, ◌/◌, ◌%◌, ◌≤◌, ◌<◌}
use native.Mathlib.Nat.{add-zero, add-suc, suc-add}
use native.Mathlib.Numerals.{add-one}
use native.Mathlib.Omega.{arith}
use borrow.Author.Tests.{ltb-true}
use lib.IntN.{ℤ, pos, negsuc, nat_abs}
use lib.ListN.{length, set, length-append}
use lib.Seq.{sets, set_out, set_comm}
use lib.Signed.{lt_z}
use mir.Syntax.{w32}
use mir.Val.{SFits, to_z, of_z}
use mir.ValLaws.{to_z-of_z}
use Rattle.numerals.specs.Numerals.{digits, last_digits, decimal}
use Rattle.numerals.specs.DigitLaws.{by_digits, digits_above_zero, decimal_last}

-- ---- the sign

negative : (z : ℤ) → lt_z z (pos 0) ≡ true → decimal z ≡ 45 ∷ decimal (pos (nat_abs z))
unfolding decimal
negative (pos n) t = absurd (omega (arith, ltb-true n 0 t))
negative (negsuc n) t = refl

not_negative : (z : ℤ) → lt_z z (pos 0) ≡ false → decimal z ≡ decimal (pos (nat_abs z))
not_negative (pos n) t = refl
not_negative (negsuc n) t = absurd (true≢false t)

-- by the code's test and the magnitude n that the code has, both of the number as the machine holds it
module _ {z : ℤ} (h : SFits w32 z) {n : ℕ} (e : n ≡ nat_abs (to_z w32 (of_z w32 z))) where
  magnitude : decimal (pos (nat_abs z)) ≡ decimal (pos n)
  magnitude = ap (λ (m : ℕ). decimal (pos m)) (ap nat_abs (sym (to_z-of_z w32 z h)) ∙ sym e)

  tested : {b : Bool} → lt_z (to_z w32 (of_z w32 z)) (pos 0) ≡ b → lt_z z (pos 0) ≡ b
  tested t = ap (λ (y : ℤ). lt_z y (pos 0)) (sym (to_z-of_z w32 z h)) ∙ t

  pub below_zero_holds : lt_z (to_z w32 (of_z w32 z)) (pos 0) ≡ true → decimal z ≡ 45 ∷ decimal (pos n)
  below_zero_holds t = negative z (tested t) ∙ ap (λ (ds : List ℕ). 45 ∷ ds) magnitude

  pub not_below_zero_holds : lt_z (to_z w32 (of_z w32 z)) (pos 0) ≡ false → decimal z ≡ decimal (pos n)
  not_below_zero_holds t = not_negative z (tested t) ∙ magnitude

-- ---- stores

-- past the end none is made
pub sets_out : (l : List ℕ) (i : ℕ) (vs : List ℕ) → length l ≤ i → sets l i vs ≡ l
sets_out l i [] h = refl
sets_out l i (v ∷ vs) h = rw (set_out l i v h) (sets_out l (suc i) vs (omega arith))

-- the last one may be made first
sets_last : (l : List ℕ) (i : ℕ) (vs : List ℕ) (v : ℕ) → sets l i (vs ++ (v ∷ [])) ≡ sets (set l (i + length vs) v) i vs
sets_last l i [] v = rw add-zero
sets_last l i (w ∷ vs) v =
    sets_last (set l i w) (suc i) vs v
    ∙ rw (suc-add, add-suc) (ap (λ (m : List ℕ). sets m (suc i) vs) (set_comm l i (suc (i + length vs)) w v (omega arith)))

-- ---- digits from the last to the first

-- the last k digits of n, zeros in front if it has fewer
pub padded : ℕ → ℕ → List ℕ
padded zero n = []
padded (suc k) n = padded k (n / 10) ++ ((48 + n % 10) ∷ [])

length_padded : (k n : ℕ) → length (padded k n) ≡ k
unfolding padded
length_padded zero n = refl
length_padded (suc k) n = length-append (padded k (n / 10)) _ ∙ omega (arith, length_padded k (n / 10))

one_more : (n : ℕ) (ds : List ℕ) → padded (length ds) (n / 10) ≡ ds
    → padded (length (ds ++ ((48 + n % 10) ∷ []))) n ≡ ds ++ ((48 + n % 10) ∷ [])
unfolding padded
one_more n ds e = rw (length-append, add-one) (ap (λ (es : List ℕ). es ++ ((48 + n % 10) ∷ [])) e)

digits_padded : (n : ℕ) → padded (length (digits n)) n ≡ digits n
unfolding padded digits last_digits
digits_padded = by_digits (λ n. padded (length (digits n)) n ≡ digits n) refl
    (λ n h rest. rw (digits_above_zero n h) (one_more n (digits (n / 10)) rest))

decimal_padded : (n : ℕ) → padded (length (decimal (pos n))) n ≡ decimal (pos n)
decimal_padded n = rw (decimal_last n) (one_more n (digits (n / 10)) (digits_padded (n / 10)))

-- Digits that are put from place i up to `end`: all of them, one less, none.

pub all_left : (l : List ℕ) (i count n : ℕ) → count ≡ length (decimal (pos n))
    → sets l i (padded (i + count - i) n) ≡ sets l i (decimal (pos n))
all_left l i count n h =
    let all : i + count - i ≡ length (decimal (pos n)) = omega arith in
    rw (all, decimal_padded)

pub one_put : (l : List ℕ) (i end n : ℕ) → i < end
    → sets l i (padded (end - i) n) ≡ sets (set l (end - 1) (48 + n % 10)) i (padded (end - 1 - i) (n / 10))
unfolding padded
one_put l i end n h =
    let count : end - i ≡ suc (end - 1 - i) = omega arith in
    let place : i + (end - 1 - i) ≡ end - 1 = omega arith in
    ap (λ (k : ℕ). sets l i (padded k n)) count
    ∙ sets_last l i (padded (end - 1 - i) (n / 10)) (48 + n % 10)
    ∙ rw (length_padded, place)

pub none_left : (l : List ℕ) (i end n : ℕ) → end ≤ i → sets l i (padded (end - i) n) ≡ l
unfolding padded
none_left l i end n h = let none : end - i ≡ 0 = omega arith in rw none
