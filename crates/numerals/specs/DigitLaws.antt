-- Laws of digits: what the digits of a number stand for, and which digits a number has. Used to prove `Laws`; assumes nothing.
use Rattle.std.specs.Prelude.{Bool, true, false, not, cond, ◌&&◌, List, [], ◌∷◌, ◌++◌, ◌≢◌, ◌≡◌, refl, ℕ, zero, suc, ◌+◌, ◌-◌, ◌*◌, ◌/◌, ◌%◌, ◌^◌, ◌≤◌, ◌<◌, leb, pos, length, get_or, Some, None}
use Rattle.std.proofs.Math.Bool.{and-eq-true_iff}
use Rattle.std.proofs.Common.{append-nil, append_assoc, sym, ap, ◌∙◌, zero-le, le_refl, le_trans, pow-suc, div-lt_iff_lt-mul, arith, leb-true, le-leb, ne_eqb, length-append}
use Rattle.std.proofs.lemmas.Bool.{eqb-false}
use Rattle.std.proofs.Math.ListN.{get_or-append}
use Rattle.numerals.specs.Numerals.{digit, all_digits, value, leading_zero, unsigned, last_digits, digits, decimal}

-- ---- the digits of a number, and induction over them

last_digits_enough : (f g n : ℕ) → n ≤ f → n ≤ g → last_digits f n ≡ last_digits g n
unfolding last_digits
last_digits_enough zero zero n h k = refl
last_digits_enough zero (suc g) zero h k = refl
last_digits_enough zero (suc g) (suc n) h k = absurd (omega arith)
last_digits_enough (suc f) zero zero h k = refl
last_digits_enough (suc f) zero (suc n) h k = absurd (omega arith)
last_digits_enough (suc f) (suc g) zero h k = refl
last_digits_enough (suc f) (suc g) (suc n) h k =
    ap (λ (ds : List ℕ). ds ++ ((48 + suc n % 10) ∷ [])) (last_digits_enough f g (suc n / 10) (omega arith) (omega arith))

pub digits_above_zero : (n : ℕ) → 0 < n → digits n ≡ digits (n / 10) ++ ((48 + n % 10) ∷ [])
unfolding digits last_digits
digits_above_zero zero h = absurd (omega arith)
digits_above_zero (suc n) h =
    ap (λ (ds : List ℕ). ds ++ ((48 + suc n % 10) ∷ [])) (last_digits_enough n (suc n / 10) (suc n / 10) (omega arith) (le_refl _))

decimal_above_zero : (n : ℕ) → 0 < n → decimal (pos n) ≡ digits n
unfolding decimal
decimal_above_zero zero h = absurd (omega arith)
decimal_above_zero (suc n) h = refl

-- the last digit of any number
pub decimal_last : (n : ℕ) → decimal (pos n) ≡ digits (n / 10) ++ ((48 + n % 10) ∷ [])
unfolding decimal digits last_digits
decimal_last zero = refl
decimal_last (suc n) = digits_above_zero (suc n) (omega arith)

-- what holds of 0, and of each number if of the one without its last digit, holds of all
within : (P : ℕ → Type 0) → P 0 → ((n : ℕ) → 0 < n → P (n / 10) → P n) → (f n : ℕ) → n ≤ f → P n
within P base step zero zero h = base
within P base step zero (suc n) h = absurd (omega arith)
within P base step (suc f) zero h = base
within P base step (suc f) (suc n) h =
    step (suc n) (omega arith) (within P base step f (suc n / 10) (omega arith))

pub by_digits : (P : ℕ → Type 0) → P 0 → ((n : ℕ) → 0 < n → P (n / 10) → P n) → (n : ℕ) → P n
by_digits P base step n = within P base step n n (le_refl n)

-- ---- they are digits

pub digit_range : (b : ℕ) → digit b ≡ true → (48 ≤ b) × (b ≤ 57)
digit_range b h =
    let both = (and-eq-true_iff (leb 48 b) (leb b 57)).0 h in
    (leb-true 48 b both.0, leb-true b 57 both.1)

digit_between : (b : ℕ) → 48 ≤ b → b ≤ 57 → digit b ≡ true
digit_between b h k = simp (le-leb 48 b h, le-leb b 57 k)

pub all_digits_cons : (d : ℕ) (ds : List ℕ) → all_digits (d ∷ ds) ≡ true → (digit d ≡ true) × (all_digits ds ≡ true)
unfolding all_digits
all_digits_cons d ds h = (and-eq-true_iff (digit d) (all_digits ds)).0 h

all_digits_append : (ds es : List ℕ) → all_digits ds ≡ true → all_digits es ≡ true → all_digits (ds ++ es) ≡ true
unfolding all_digits
all_digits_append [] es h k = k
all_digits_append (d ∷ ds) es h k =
    let both = all_digits_cons d ds h in
    simp (both.0, all_digits_append ds es both.1 k)

all_digits_digits : (n : ℕ) → all_digits (digits n) ≡ true
unfolding digits last_digits all_digits
all_digits_digits = by_digits (λ n. all_digits (digits n) ≡ true) refl
    (λ n h rest. rw digits_above_zero
    (all_digits_append (digits (n / 10)) _ rest (simp (digit_between (48 + n % 10) (omega arith) (omega arith)))))

pub all_digits_decimal : (n : ℕ) → all_digits (decimal (pos n)) ≡ true
unfolding decimal all_digits
all_digits_decimal zero = refl
all_digits_decimal (suc n) = all_digits_digits (suc n)

-- ---- they stand for the number

value_append : (n : ℕ) (ds es : List ℕ) → value n (ds ++ es) ≡ value (value n ds) es
unfolding value
value_append n [] es = refl
value_append n (d ∷ ds) es = value_append (10 * n + (d - 48)) ds es

value_digits : (n : ℕ) → value 0 (digits n) ≡ n
unfolding digits last_digits value
value_digits = by_digits (λ n. value 0 (digits n) ≡ n) refl
    (λ n h rest. rw (digits_above_zero, value_append) (omega (arith, rest)))

pub value_decimal : (n : ℕ) → value 0 (decimal (pos n)) ≡ n
unfolding decimal value
value_decimal zero = refl
value_decimal (suc n) = value_digits (suc n)

pub value_grows : (n : ℕ) (ds : List ℕ) → n ≤ value n ds
unfolding value
value_grows n [] = le_refl n
value_grows n (d ∷ ds) = le_trans (omega arith) (value_grows (10 * n + (d - 48)) ds)

-- ---- they have no leading zero

digits_nonempty : (n : ℕ) → 0 < n → 0 < length (digits n)
digits_nonempty n h = rw (digits_above_zero n h) (simp length-append (omega arith))

pub decimal_nonempty : (n : ℕ) → 0 < length (decimal (pos n))
decimal_nonempty n = rw decimal_last (simp length-append (omega arith))

first_last : (n m : ℕ) → n / 10 ≡ m → 0 < n → get_or (digits m) 0 0 ≢ 48 → get_or (digits m ++ ((48 + n % 10) ∷ [])) 0 0 ≢ 48
unfolding digits last_digits
first_last n zero e h first = omega arith
first_last n (suc m) e h first = rw (get_or-append (digits (suc m)) _ 0 0 (digits_nonempty (suc m) (omega arith))) first

first_digit : (n : ℕ) → get_or (digits n) 0 0 ≢ 48
unfolding digits last_digits
first_digit = by_digits (λ n. get_or (digits n) 0 0 ≢ 48) (omega arith)
    (λ n h first. rw digits_above_zero (first_last n (n / 10) refl h first))

pub no_leading : (ds : List ℕ) → get_or ds 0 0 ≢ 48 → leading_zero ds ≡ false
unfolding leading_zero
no_leading [] h = refl
no_leading (d ∷ []) h = refl
no_leading (d ∷ e ∷ ds) h = ne_eqb d 48 h

leading_zero_decimal : (n : ℕ) → leading_zero (decimal (pos n)) ≡ false
unfolding decimal leading_zero
leading_zero_decimal zero = refl
leading_zero_decimal (suc n) = no_leading (digits (suc n)) (first_digit (suc n))

-- ---- the digits of what digits stand for

digits_one : (n d : ℕ) → 0 < 10 * n + d → d < 10 → digits (10 * n + d) ≡ digits n ++ ((48 + d) ∷ [])
digits_one n d h k =
    let q : (10 * n + d) / 10 ≡ n = omega arith in
    let r : (10 * n + d) % 10 ≡ d = omega arith in
    rw (digits_above_zero (10 * n + d) h, q, r)

digits_value : (n : ℕ) (ds : List ℕ) → 0 < n → all_digits ds ≡ true → digits (value n ds) ≡ digits n ++ ds
unfolding value
digits_value n [] h k = sym (append-nil (digits n))
digits_value n (d ∷ ds) h k =
    let both = all_digits_cons d ds k in
    let range = digit_range d both.0 in
    let same : 48 + (d - 48) ≡ d = omega arith in
    digits_value (10 * n + (d - 48)) ds (omega arith) both.1
    ∙ rw (digits_one n (d - 48) (omega arith) (omega arith), same) (append_assoc (digits n) (d ∷ []) ds)

decimal_value : (ds : List ℕ) → 0 < length ds → all_digits ds ≡ true → leading_zero ds ≡ false
    → decimal (pos (value 0 ds)) ≡ ds
unfolding value digits last_digits leading_zero
decimal_value [] h k l = absurd (omega arith)
decimal_value (d ∷ []) h k l =
    let range = digit_range d (all_digits_cons d [] k).0 in
    let none_before : (10 * 0 + (d - 48)) / 10 ≡ 0 = omega arith in
    let same : 48 + (10 * 0 + (d - 48)) % 10 ≡ d = omega arith in
    decimal_last (10 * 0 + (d - 48)) ∙ rw (none_before, same)
decimal_value (d ∷ e ∷ ds) h k l =
    let both = all_digits_cons d (e ∷ ds) k in
    let range = digit_range d both.0 in
    let first : 0 < 10 * 0 + (d - 48) = omega (arith, eqb-false d 48 l) in
    let same : 48 + (d - 48) ≡ d = omega arith in
    decimal_above_zero _ (le_trans first (value_grows (10 * 0 + (d - 48)) (e ∷ ds)))
    ∙ digits_value (10 * 0 + (d - 48)) (e ∷ ds) first both.1
    ∙ rw (digits_one 0 (d - 48) first (omega arith), same)

-- ---- how many they are

digits_length : (k n : ℕ) → n < 10 ^ k → length (digits n) ≤ k
unfolding digits last_digits
digits_length zero zero h = zero-le
digits_length zero (suc n) h = absurd (omega arith)
digits_length (suc k) zero h = zero-le
digits_length (suc k) (suc n) h =
    let fewer : suc n / 10 < 10 ^ k = (div-lt_iff_lt-mul {k = 10} (omega arith)).1 (rw pow-suc at h) in
    rw (digits_above_zero (suc n) (omega arith)) (simp length-append (omega (arith, digits_length k (suc n / 10) fewer)))

pub digits_none : (n : ℕ) → n ≤ 0 → length (digits n) ≡ 0
unfolding digits last_digits
digits_none zero h = refl
digits_none (suc n) h = absurd (omega arith)

pub digits_count : (n : ℕ) → 0 < n → length (digits n) ≡ length (digits (n / 10)) + 1
digits_count n h = rw (digits_above_zero n h) (length-append (digits (n / 10)) _)

pub decimal_count : (n : ℕ) → length (decimal (pos n)) ≡ length (digits (n / 10)) + 1
decimal_count n = rw decimal_last (length-append (digits (n / 10)) _)

pub decimal_length : (k n : ℕ) → n < 10 ^ suc k → length (decimal (pos n)) ≤ suc k
unfolding decimal
decimal_length k zero h = omega arith
decimal_length k (suc n) h = digits_length (suc k) (suc n) h

-- ---- a number without its sign

unsigned_value : (ds : List ℕ) → 0 < length ds → all_digits ds ≡ true → leading_zero ds ≡ false
    → unsigned ds ≡ Some (value 0 ds)
unfolding unsigned
unsigned_value [] h k l = absurd (omega arith)
unsigned_value (d ∷ ds) h k l = simp (l, k)

pub unsigned_decimal : (n : ℕ) → unsigned (decimal (pos n)) ≡ Some n
unsigned_decimal n =
    unsigned_value (decimal (pos n)) (decimal_nonempty n) (all_digits_decimal n) (leading_zero_decimal n)
    ∙ ap Some (value_decimal n)

well_written : (ds : List ℕ) (l a : Bool) {n : ℕ} → cond (not l && a) (Some (value 0 ds)) None ≡ Some n
    → (l ≡ false) × (a ≡ true) × (value 0 ds ≡ n)
well_written ds true a e = absurd (let clash : ◌≡◌ {A = ℕ} 0 1 = cc in omega arith)
well_written ds false true e = (refl, refl, cc)
well_written ds false false e = absurd (let clash : ◌≡◌ {A = ℕ} 0 1 = cc in omega arith)

pub decimal_unsigned : (ds : List ℕ) {n : ℕ} → unsigned ds ≡ Some n → decimal (pos n) ≡ ds
unfolding unsigned
decimal_unsigned [] e = absurd (let clash : ◌≡◌ {A = ℕ} 0 1 = cc in omega arith)
decimal_unsigned (d ∷ ds) e =
    let parts = well_written (d ∷ ds) (leading_zero (d ∷ ds)) (all_digits (d ∷ ds)) e in
    ap (λ (m : ℕ). decimal (pos m)) (sym parts.2) ∙ decimal_value (d ∷ ds) (omega arith) parts.1 parts.0
