-- Reading digits one by one: what is read from a digit on depends on the number that those before it stand for. Assumes nothing.
use Rattle.std.specs.Prelude.{Some, None, Option}
use mathlib.Core.Bool.{Bool, true, false, cond}
use mathlib.Core.List.{List, [], ◌∷◌}
use mathlib.Core.Logic.{◌≢◌}
use mathlib.Core.Path.{◌≡◌, refl, sym, ap, ◌∙◌}
use Prim.Native.Nat.{ℕ, zero, suc, ◌+◌, ◌-◌, ◌*◌, ◌≤◌, ◌<◌}
use native.Mathlib.Nat.{lt_of_lt_of_le}
use native.Mathlib.Numerals.{add-one}
use native.Mathlib.Omega.{arith}
use borrow.Author.Tests.{leb-true, leb-false, le-leb, lt-leb, eq-eqb}
use lib.Dec.{leb}
use lib.IntN.{pos, neg_ℤ}
use lib.ListN.{length, get_or, take, drop, drop_of_length-le}
use lib.Seq.{take_all, drop-cons}
use Rattle.numerals.specs.Numerals.{digit, all_digits, value, leading_zero, unsigned, not_below_zero, below_zero, numeral_of}
use Rattle.numerals.specs.Magnitudes.{at_most}
use Rattle.numerals.specs.DigitLaws.{value_grows, no_leading}

apart : {n : ℕ} → None ≡ Some n → ⊥
apart e = let clash : ◌≡◌ {A = ℕ} 0 1 = cc in omega arith

-- what `ds` say behind digits that stand for n
pub onward : ℕ → ℕ → List ℕ → Option ℕ
onward most n ds = cond (all_digits ds) (at_most most (Some (value n ds))) None

-- ---- the whole

pub none_read : (most : ℕ) (ds : List ℕ) → length ds ≡ 0 → at_most most (unsigned ds) ≡ None
unfolding unsigned
none_read most [] h = refl
none_read most (d ∷ ds) h = absurd (omega arith)

pub zero_led : (most : ℕ) (ds : List ℕ) → 1 < length ds → get_or ds 0 0 ≡ 48 → at_most most (unsigned ds) ≡ None
unfolding unsigned leading_zero
zero_led most [] h e = absurd (omega arith)
zero_led most (d ∷ []) h e = absurd (omega arith)
zero_led most (d ∷ b ∷ ds) h e = simp (eq-eqb d 48 e)

judged : (most : ℕ) (t : Bool) (n : ℕ) → at_most most (cond t (Some n) None) ≡ cond t (at_most most (Some n)) None
judged most true n = refl
judged most false n = refl

from_start : (most : ℕ) (ds : List ℕ) → 0 < length ds → leading_zero ds ≡ false → at_most most (unsigned ds) ≡ onward most 0 ds
unfolding onward unsigned
from_start most [] h l = absurd (omega arith)
from_start most (d ∷ ds) h l = rw l (judged most (all_digits (d ∷ ds)) (value 0 (d ∷ ds)))

pub one_read : (most : ℕ) (ds : List ℕ) → 0 < length ds → length ds ≤ 1 → at_most most (unsigned ds) ≡ onward most 0 ds
unfolding leading_zero
one_read most [] h k = absurd (omega arith)
one_read most (d ∷ []) h k = from_start most (d ∷ []) h refl
one_read most (d ∷ e ∷ ds) h k = absurd (omega arith)

pub not_zero_led : (most : ℕ) (ds : List ℕ) → 0 < length ds → get_or ds 0 0 ≢ 48 → at_most most (unsigned ds) ≡ onward most 0 ds
not_zero_led most ds h k = from_start most ds h (no_leading ds k)

-- ---- one digit

module _ (most n : ℕ) (ds : List ℕ) (i : ℕ) (h : i < length ds) where
  pub no_digit : digit (get_or ds i 0) ≡ false → onward most n (drop i ds) ≡ None
  unfolding onward all_digits
  no_digit t = rw (drop-cons ds i 0 h) (simp t)

  pub one_digit : digit (get_or ds i 0) ≡ true
      → onward most n (drop i ds) ≡ onward most (10 * n + (get_or ds i 0 - 48)) (drop (i + 1) ds)
  unfolding onward all_digits value
  one_digit t = rw (add-one, drop-cons ds i 0 h) (simp t)

-- ---- the end

pub none_left : (most n : ℕ) (ds : List ℕ) (i : ℕ) → length ds ≤ i → n ≤ most → onward most n (drop i ds) ≡ Some n
unfolding onward all_digits value
none_left most n ds i h k = rw (drop_of_length-le ds h) (simp (le-leb n most k))

pub beyond : (most n : ℕ) (ds : List ℕ) → most < n → onward most n ds ≡ None
unfolding onward
beyond most n ds h = simp (lt-leb (value n ds) most (lt_of_lt_of_le h (value_grows n ds))) (same (all_digits ds))
  where
    same : (t : Bool) → ◌≡◌ {A = Option ℕ} (cond t None None) None
    same true = refl
    same false = refl

-- ---- the sign

at_most_holds : (most : ℕ) (o : Option ℕ) {n : ℕ} → at_most most o ≡ Some n → (o ≡ Some n) × (n ≤ most)
at_most_holds most None e = absurd (apart e)
at_most_holds most (Some m) {n} e = go (leb m most) refl e
  where
    go : (t : Bool) → leb m most ≡ t → cond t (Some m) None ≡ Some n → (Some m ≡ Some n) × (n ≤ most)
    go true h k = let same : m ≡ n = cc in (cc, omega (arith, leb-true m most h))
    go false h k = absurd (apart k)

past : (most m : ℕ) → at_most most (Some m) ≡ None → most < m
past most m e = go (leb m most) refl e
  where
    go : (t : Bool) → leb m most ≡ t → cond t (Some m) None ≡ None → most < m
    go true h k = absurd (apart (sym k))
    go false h k = leb-false m most h

pub not_below_zero_holds : (o : Option ℕ) {n : ℕ} → at_most 2147483647 o ≡ Some n
    → (n ≤ 2147483647) × (not_below_zero o ≡ Some (pos n))
unfolding not_below_zero
not_below_zero_holds o {n} e =
    let both = at_most_holds 2147483647 o e in
    (both.1, ap not_below_zero both.0 ∙ simp (le-leb n 2147483647 both.1))

pub no_number : (o : Option ℕ) → at_most 2147483647 o ≡ None → not_below_zero o ≡ None
unfolding not_below_zero
no_number None e = refl
no_number (Some m) e = simp (lt-leb m 2147483647 (past 2147483647 m e))

pub below_zero_holds : (o : Option ℕ) {n : ℕ} → at_most 2147483648 o ≡ Some n → 0 < n
    → (n ≤ 2147483648) × (below_zero o ≡ Some (neg_ℤ (pos n)))
unfolding below_zero
below_zero_holds o {n = zero} e h = absurd (omega arith)
below_zero_holds o {n = suc n} e h =
    let both = at_most_holds 2147483648 o e in
    (both.1, ap below_zero both.0 ∙ simp (le-leb (suc n) 2147483648 both.1))

pub minus_zero : (o : Option ℕ) → at_most 2147483648 o ≡ Some 0 → below_zero o ≡ None
unfolding below_zero
minus_zero o e = ap below_zero (at_most_holds 2147483648 o e).0

pub minus_no_number : (o : Option ℕ) → at_most 2147483648 o ≡ None → below_zero o ≡ None
unfolding below_zero
minus_no_number None e = refl
minus_no_number (Some zero) e = refl
minus_no_number (Some (suc m)) e = simp (lt-leb (suc m) 2147483648 (past 2147483648 (suc m) e))

pub nothing : (bs : List ℕ) → length bs ≡ 0 → numeral_of bs ≡ None
unfolding numeral_of
nothing [] h = refl
nothing (b ∷ bs) h = absurd (omega arith)

pub with_minus : (bs : List ℕ) → get_or bs 0 0 ≡ 45 → numeral_of bs ≡ below_zero (unsigned (take (length bs - 1) (drop 1 bs)))
unfolding numeral_of
with_minus [] h = absurd (omega arith)
with_minus (b ∷ bs) h = rw (take_all (suc (length bs) - 1) bs (omega arith)) (simp (eq-eqb b 45 h))
