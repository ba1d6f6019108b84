-- Laws of numbers as they are written: those of the range read back, and what reads as a number is written in that one way, so
-- exactly the numbers of [1.4] are well written; how many bytes they take, and which. Assumes nothing.
use Rattle.std.specs.Prelude.{Bool, true, false, cond, List, [], ◌∷◌, ◌≢◌, ◌≡◌, refl, ℕ, zero, suc, ◌≤◌, ◌<◌, leb, eqb, ℤ, pos, negsuc, length, get_or, Some, None, Option}
use Rattle.std.proofs.Common.{true≢false, sym, ap, subst, ◌∙◌, arith, leb-true, le-leb, eqb-true, ne_eqb, SFits}
use Rattle.std.proofs.lemmas.Bool.{eqb-false}
use Rattle.std.specs.Int.{w32}
use Rattle.texts.specs.Laws.{Free}
use Rattle.numerals.specs.Numerals.{digit, all_digits, unsigned, not_below_zero, below_zero, numeral_of, digits, decimal}
use Rattle.numerals.specs.DigitLaws as laws

-- ---- read back

pub without_minus : (bs : List ℕ) → get_or bs 0 0 ≢ 45 → numeral_of bs ≡ not_below_zero (unsigned bs)
unfolding numeral_of unsigned not_below_zero
without_minus [] h = refl
without_minus (b ∷ bs) h = simp (ne_eqb b 45 h)

first_of_digits : (ds : List ℕ) → all_digits ds ≡ true → get_or ds 0 0 ≢ 45
first_of_digits [] h = omega arith
first_of_digits (d ∷ ds) h =
    let range = laws.digit_range d (laws.all_digits_cons d ds h).0 in
    omega arith

-- A number of the range reads back as it was written.
pub read_back : (z : ℤ) → SFits w32 z → numeral_of (decimal z) ≡ Some z
unfolding numeral_of decimal not_below_zero below_zero
read_back (pos n) h =
    without_minus (decimal (pos n)) (first_of_digits (decimal (pos n)) (laws.all_digits_decimal n))
    ∙ ap not_below_zero (laws.unsigned_decimal n)
    ∙ simp (le-leb n 2147483647 (omega (arith, h.sfits)))
read_back (negsuc n) h =
    ap below_zero (laws.unsigned_decimal (suc n))
    ∙ simp (le-leb (suc n) 2147483648 (omega (arith, h.sfits)))

-- ---- written in one way

-- z is in the range, and the bytes are how it is written
record Written (z : ℤ) (bs : List ℕ) : Type 0 where
  range : SFits w32 z
  bytes : decimal z ≡ bs

malformed : {z : ℤ} → None ≡ Some z → ⊥
malformed e = let clash : ◌≡◌ {A = ℕ} 0 1 = cc in omega arith

accepted : (t : Bool) (y z : ℤ) → cond t (Some y) None ≡ Some z → (t ≡ true) × (y ≡ z)
accepted true y z e = (refl, cc)
accepted false y z e = absurd (malformed e)

not_below_zero_holds : (ds : List ℕ) (o : Option ℕ) {z : ℤ} → unsigned ds ≡ o → not_below_zero o ≡ Some z → Written z ds
unfolding not_below_zero
not_below_zero_holds ds None e h = absurd (malformed h)
not_below_zero_holds ds (Some n) {z} e h =
    let both = accepted (leb n 2147483647) (pos n) z h in
    let most : n ≤ 2147483647 = leb-true n 2147483647 both.0 in
    subst (λ (y : ℤ). Written y ds) both.1
    (record { range = record { sfits = omega arith }; bytes = laws.decimal_unsigned ds e })

below_zero_holds : (ds : List ℕ) (o : Option ℕ) {z : ℤ} → unsigned ds ≡ o → below_zero o ≡ Some z → Written z (45 ∷ ds)
unfolding below_zero decimal
below_zero_holds ds None e h = absurd (malformed h)
below_zero_holds ds (Some zero) e h = absurd (malformed h)
below_zero_holds ds (Some (suc n)) {z} e h =
    let both = accepted (leb (suc n) 2147483648) (negsuc n) z h in
    let most : suc n ≤ 2147483648 = leb-true (suc n) 2147483648 both.0 in
    subst (λ (y : ℤ). Written y (45 ∷ ds)) both.1
    (record { range = record { sfits = omega arith }; bytes = ap (λ (es : List ℕ). 45 ∷ es) (laws.decimal_unsigned ds e) })

written : (bs : List ℕ) {z : ℤ} → numeral_of bs ≡ Some z → Written z bs
unfolding numeral_of
written [] h = absurd (malformed h)
written (b ∷ bs) {z} h = go (eqb b 45) refl h
  where
    go : (t : Bool) → eqb b 45 ≡ t → cond t (below_zero (unsigned bs)) (not_below_zero (unsigned (b ∷ bs))) ≡ Some z
        → Written z (b ∷ bs)
    go true e k = subst (λ (c : ℕ). Written z (c ∷ bs)) (sym (eqb-true b 45 e)) (below_zero_holds bs (unsigned bs) refl k)
    go false e k = not_below_zero_holds (b ∷ bs) (unsigned (b ∷ bs)) refl k

-- Bytes that say a number are the number as it is written: each is written in one way.
pub one_way : (bs : List ℕ) {z : ℤ} → numeral_of bs ≡ Some z → decimal z ≡ bs
one_way bs h = (written bs h).bytes

-- Bytes say no number beyond the range.
pub in_range_holds : (bs : List ℕ) {z : ℤ} → numeral_of bs ≡ Some z → SFits w32 z
in_range_holds bs h = (written bs h).range

-- ---- how long

-- A number of the range takes 1 to 11 bytes, one of 0 to 9,999 at most 4.
pub decimal_nonempty : (z : ℤ) → 0 < length (decimal z)
unfolding decimal
decimal_nonempty (pos n) = laws.decimal_nonempty n
decimal_nonempty (negsuc n) = omega arith

pub decimal_length : (z : ℤ) → SFits w32 z → length (decimal z) ≤ 11
unfolding decimal
decimal_length (pos n) h = omega (arith, laws.decimal_length 9 n (omega (arith, h.sfits)))
decimal_length (negsuc n) h = omega (arith, laws.decimal_length 9 (suc n) (omega (arith, h.sfits)))

pub decimal_short : (n : ℕ) → n ≤ 9999 → length (decimal (pos n)) ≤ 4
decimal_short n h = laws.decimal_length 3 n (omega arith)

-- ---- which bytes

digits_free : (b : ℕ) (ds : List ℕ) → digit b ≡ false → all_digits ds ≡ true → Free b ds
digits_free b [] h k = tt
digits_free b (d ∷ ds) h k =
    let both = laws.all_digits_cons d ds k in
    ((λ e. true≢false (sym both.0 ∙ ap digit e ∙ h)), digits_free b ds h both.1)

-- A number is written with digits and the minus alone: no comma and no line's end is in it.
pub decimal_free : (b : ℕ) → digit b ≡ false → eqb b 45 ≡ false → (z : ℤ) → Free b (decimal z)
unfolding decimal
decimal_free b h k (pos n) = digits_free b (decimal (pos n)) h (laws.all_digits_decimal n)
decimal_free b h k (negsuc n) =
    ((λ e. eqb-false b 45 k (sym e)), digits_free b (digits (suc n)) h (laws.all_digits_decimal (suc n)))

pub no_comma : (z : ℤ) → Free 44 (decimal z)
no_comma = decimal_free 44 refl refl

pub no_line_end : (z : ℤ) → Free 10 (decimal z)
no_line_end = decimal_free 10 refl refl
