-- [4.3] What the quotient is: of all whole numbers the one nearest to the exact quotient, of two as near the even one, and that clamped.
-- Laws of the definition; no demand rests on what is defined here. Assumes nothing.
use Rattle.std.specs.Prelude.{Bool, true, false, cond, ◌≡◌, refl, ℕ, zero, suc, ◌+◌, ◌-◌, ◌*◌, ◌/◌, ◌%◌, ◌≤◌, ◌<◌, ltb, ℤ, pos, negsuc, neg_ℤ, nat_abs, ◌-ℤ◌, ◌*ℤ◌}
use Rattle.std.proofs.Common.{sym, ap, subst, ◌∙◌, add-zero, div-add-mod', mod-lt, add-mul, mul-le-mul_left, mul-le-mul_right, le_antisymm, le_refl, zero-lt-suc, arith, ltb-true, ltb-false, SFits}
use Rattle.std.proofs.Math.Nat.{eq_of_mul-eq-mul_right}
use Rattle.std.proofs.Math.IntN.{neg_ℤ-neg_ℤ, neg_ℤ-+ℤ, zero-*ℤ, *ℤ_comm}
use Rattle.std.specs.Int.{w32}
use Rattle.std.proofs.Math.Facts.{sfits_lit}
use Rattle.arithmetic.specs.Arithmetic.{lowest, clamp, nearest, nearest_z, quotient}
use Rattle.arithmetic.proofs.CellLaws.{clamp_exact}

-- n is at most half off the exact quotient of x by y, and even where it is exactly half off.
pub record Nearest (x y n : ℤ) : Type 0 where
  pub near : 2 * nat_abs (x -ℤ n *ℤ y) ≤ nat_abs y
  pub even : 2 * nat_abs (x -ℤ n *ℤ y) ≡ nat_abs y → nat_abs n % 2 ≡ 0

-- There is one number nearest to the exact quotient, and the quotient is that number, clamped.
pub record Rounded (x y : ℤ) : Type 0 where
  pub number : ℤ
  pub nearest : Nearest x y number
  pub only : (n : ℤ) → Nearest x y n → n ≡ number
  pub clamped : quotient x y ≡ clamp number

-- ---- above zero

-- how far apart two numbers are
abbrev apart : ℕ → ℕ → ℕ
apart a c = (a - c) + (c - a)

difference_size : (a c : ℕ) → nat_abs (pos a -ℤ pos c) ≡ apart a c
difference_size a zero = omega arith
difference_size a (suc c) = by_test (ltb a (suc c)) refl
  where
    by_test : (less : Bool) → ltb a (suc c) ≡ less → nat_abs (cond less (negsuc (suc c - suc a)) (pos (a - suc c))) ≡ apart a (suc c)
    by_test true l = omega (arith, ltb-true a (suc c) l)
    by_test false l = omega (arith, ltb-false a (suc c) l)

abbrev NearestAbove : ℕ → ℕ → ℕ → Type 0
NearestAbove a b n = Nearest (pos a) (pos b) (pos n)

nearest_above : (a : ℕ) {b : ℕ} → 0 < b → NearestAbove a b (nearest a b)
unfolding nearest
nearest_above a {b} h = by_tests (ltb b (2 * (a % b))) (ltb (2 * (a % b)) b) (a / b % 2) refl refl refl
  where
    whole : a / b * b + a % b ≡ a
    whole = div-add-mod' a b

    next : (a / b + 1) * b ≡ a / b * b + b
    next = add-mul (a / b) 1 b ∙ omega arith

    here : nat_abs (pos a -ℤ pos (a / b * b)) ≡ apart a (a / b * b)
    here = difference_size a (a / b * b)

    there : nat_abs (pos a -ℤ pos ((a / b + 1) * b)) ≡ apart a ((a / b + 1) * b)
    there = difference_size a ((a / b + 1) * b)

    half : ltb b (2 * (a % b)) ≡ false → ltb (2 * (a % b)) b ≡ false → 2 * (a % b) ≡ b
    half m l = omega (arith, ltb-false b (2 * (a % b)) m, ltb-false (2 * (a % b)) b l)

    by_tests : (more less : Bool) (odd : ℕ) → ltb b (2 * (a % b)) ≡ more → ltb (2 * (a % b)) b ≡ less → a / b % 2 ≡ odd
        → NearestAbove a b (cond more (a / b + 1) (cond less (a / b) (a / b + odd)))
    by_tests true less odd m l o =
        let high = ltb-true b (2 * (a % b)) m in
        record { near = omega (arith, there, whole, next, mod-lt a h); even = λ e. absurd (omega (arith, there, whole, next, mod-lt a h)) }
    by_tests false true odd m l o =
        let low = ltb-true (2 * (a % b)) b l in
        record { near = omega (arith, here, whole); even = λ e. absurd (omega (arith, here, whole)) }
    by_tests false false zero m l o = rw (add-zero (a / b)) (record { near = omega (arith, here, whole, half m l); even = λ e. o })
    by_tests false false (suc zero) m l o = record { near = omega (arith, there, whole, next, half m l); even = λ e. omega (arith, o) }
    by_tests false false (suc (suc odd)) m l o = absurd (omega (arith, o))

-- To a greater dividend no lesser number is nearest; so to one dividend only one is.
above_ordered : {a a' b m n : ℕ} → 0 < b → NearestAbove a b m → NearestAbove a' b n → a ≤ a' → m ≤ n
above_ordered {a} {a'} {b} {m} {n} h p q le = by_test (ltb n m) refl
  where
    by_test : (less : Bool) → ltb n m ≡ less → m ≤ n
    by_test false l = ltb-false n m l
    by_test true l =
        let here = difference_size a (m * b) in
        let there = difference_size a' (n * b) in
        let step : suc n * b ≤ m * b = mul-le-mul_right b (ltb-true n m l) in
        let same : suc n * b ≡ m * b = omega (arith, here, there, p.near, q.near) in
        let next : suc n ≡ m = eq_of_mul-eq-mul_right b h (suc n) m same in
        let even : m % 2 ≡ 0 = p.even (omega (arith, here, there, same, p.near, q.near)) in
        let even' : n % 2 ≡ 0 = q.even (omega (arith, here, there, same, p.near, q.near)) in
        absurd (omega (arith, next, even, even'))

pub nearest_ordered : {a a' b : ℕ} → 0 < b → a ≤ a' → nearest a b ≤ nearest a' b
nearest_ordered {a} {a'} h le = above_ordered h (nearest_above a h) (nearest_above a' h) le

above_only : (a : ℕ) (n : ℤ) {b : ℕ} → 0 < b → Nearest (pos a) (pos b) n → n ≡ pos (nearest a b)
above_only a (pos n) h p = ap pos (le_antisymm (above_ordered h p (nearest_above a h) (le_refl a)) (above_ordered h (nearest_above a h) p (le_refl a)))
above_only a (negsuc n) {b} h p =
    let distance : nat_abs (pos a -ℤ negsuc n *ℤ pos b) ≡ a + suc n * b = rw (neg_ℤ-neg_ℤ (pos (suc n * b))) in
    absurd (omega (arith, distance, p.near))

-- ---- with signs

pub minus_size : (z : ℤ) → nat_abs (neg_ℤ z) ≡ nat_abs z
minus_size (pos zero) = refl
minus_size (pos (suc n)) = refl
minus_size (negsuc n) = refl

minus_product : (n y : ℤ) → neg_ℤ n *ℤ y ≡ neg_ℤ (n *ℤ y)
minus_product (pos zero) y = zero-*ℤ y ∙ ap neg_ℤ (sym (zero-*ℤ y))
minus_product (pos (suc n)) (pos b) = refl
minus_product (pos (suc n)) (negsuc b) = sym (neg_ℤ-neg_ℤ (pos (suc n * suc b)))
minus_product (negsuc n) (pos b) = sym (neg_ℤ-neg_ℤ (pos (suc n * b)))
minus_product (negsuc n) (negsuc b) = refl

-- The dividend turns its sign, and so does the product of divisor and number: the distance stays.
turned : {x y n y' n' : ℤ} → n' *ℤ y' ≡ neg_ℤ (n *ℤ y) → nat_abs y' ≡ nat_abs y → nat_abs n' ≡ nat_abs n → Nearest x y n → Nearest (neg_ℤ x) y' n'
turned {x} {y} {n} {y'} {n'} product divisor number p = record {
  near = omega (arith, distance, divisor, p.near);
  even = λ half. ap (λ (k : ℕ). k % 2) number ∙ p.even (omega (arith, distance, divisor, half));
}
  where
    distance : nat_abs (neg_ℤ x -ℤ n' *ℤ y') ≡ nat_abs (x -ℤ n *ℤ y)
    distance = ap (λ (z : ℤ). nat_abs (neg_ℤ x -ℤ z)) product ∙ ap nat_abs (sym (neg_ℤ-+ℤ x (neg_ℤ (n *ℤ y)))) ∙ minus_size (x -ℤ n *ℤ y)

turned_with_number : {x y n : ℤ} → Nearest x y n → Nearest (neg_ℤ x) y (neg_ℤ n)
turned_with_number {x} {y} {n} p = turned (minus_product n y) refl (minus_size n) p

turned_with_divisor : {x y n : ℤ} → Nearest x y n → Nearest (neg_ℤ x) (neg_ℤ y) n
turned_with_divisor {x} {y} {n} p = turned (*ℤ_comm n (neg_ℤ y) ∙ minus_product y n ∙ ap neg_ℤ (*ℤ_comm y n)) (minus_size y) refl p

nearest_is : (x : ℤ) {b : ℕ} → 0 < b → Nearest x (pos b) (nearest_z x b)
nearest_is (pos a) h = nearest_above a h
nearest_is (negsuc a) h = turned_with_number (nearest_above (suc a) h)

nearest_only : (x n : ℤ) {b : ℕ} → 0 < b → Nearest x (pos b) n → n ≡ nearest_z x b
nearest_only (pos a) n h p = above_only a n h p
nearest_only (negsuc a) n h p = sym (neg_ℤ-neg_ℤ n) ∙ ap neg_ℤ (above_only (suc a) (neg_ℤ n) h (turned_with_number p))

nearest_below : (x : ℤ) (b : ℕ) → Nearest x (negsuc b) (nearest_z (neg_ℤ x) (suc b))
nearest_below x b =
    subst (λ (z : ℤ). Nearest z (negsuc b) (nearest_z (neg_ℤ x) (suc b))) (neg_ℤ-neg_ℤ x) (turned_with_divisor (nearest_is (neg_ℤ x) (zero-lt-suc b)))

-- ---- the quotient

pub quotient_rounded : (x y : ℤ) → (y ≡ pos 0 → ⊥) → Rounded x y
unfolding quotient
quotient_rounded x (pos zero) nonzero = absurd (nonzero refl)
quotient_rounded x (pos (suc b)) nonzero = record {
  number = nearest_z x (suc b);
  nearest = nearest_is x (zero-lt-suc b);
  only = λ n p. nearest_only x n (zero-lt-suc b) p;
  clamped = refl;
}
quotient_rounded x (negsuc b) nonzero = record {
  number = nearest_z (neg_ℤ x) (suc b);
  nearest = nearest_below x b;
  only = λ n p. nearest_only (neg_ℤ x) n (zero-lt-suc b) (turned_with_divisor p);
  clamped = refl;
}

-- ---- clamped: only the lowest number by −1 is

-- n times a lesser divisor lies no more than half of that above a, too
above_few : {a b c : ℕ} (n : ℕ) → NearestAbove a b n → c ≤ b → 2 * (n * c) ≤ 2 * a + c
above_few zero p le = omega arith
above_few {a} {b} (suc n) p le = omega (arith, difference_size a (suc n * b), p.near, mul-le-mul_left n le)

nearest_few : (a : ℕ) {b c : ℕ} → 0 < b → c ≤ b → 2 * (nearest a b * c) ≤ 2 * a + c
nearest_few a {b} h le = above_few (nearest a b) (nearest_above a h) le

minus_fits : (n : ℕ) → n ≤ 2147483648 → SFits w32 (neg_ℤ (pos n))
minus_fits zero le = sfits_lit tt
minus_fits (suc n) le = record { sfits = omega arith }

nearest_fits : (x : ℤ) {b : ℕ} → SFits w32 x → 0 < b → SFits w32 (nearest_z x b)
nearest_fits (pos a) hx h = record { sfits = omega (arith, hx.sfits, nearest_few a {c = 1} h h) }
nearest_fits (negsuc a) {b} hx h = minus_fits (nearest (suc a) b) (omega (arith, hx.sfits, nearest_few (suc a) {c = 1} h h))

negated_fits : (x : ℤ) (b : ℕ) → SFits w32 x → (x ≡ lowest → negsuc b ≡ negsuc 0 → ⊥) → SFits w32 (nearest_z (neg_ℤ x) (suc b))
negated_fits (pos zero) b hx other = nearest_fits (pos 0) hx (zero-lt-suc b)
negated_fits (pos (suc a)) b hx other = nearest_fits (negsuc a) (record { sfits = omega (arith, hx.sfits) }) (zero-lt-suc b)
negated_fits (negsuc a) zero hx other = by_test (ltb a 2147483647) refl
  where
    by_test : (less : Bool) → ltb a 2147483647 ≡ less → SFits w32 (pos (nearest (suc a) 1))
    by_test true l = record { sfits = omega (arith, ltb-true a 2147483647 l, nearest_few (suc a) {c = 1} (zero-lt-suc 0) (zero-lt-suc 0)) }
    by_test false l = absurd (other (ap negsuc (omega (arith, hx.sfits, ltb-false a 2147483647 l))) refl)
negated_fits (negsuc a) (suc b) hx other =
    record { sfits = omega (arith, hx.sfits, nearest_few (suc a) {c = 2} (zero-lt-suc (suc b)) (omega arith)) }

-- Of any other two cells, the divisor not 0, the quotient itself is nearest.
pub quotient_nearest : {x y : ℤ} → SFits w32 x → (y ≡ pos 0 → ⊥) → (x ≡ lowest → y ≡ negsuc 0 → ⊥) → Nearest x y (quotient x y)
unfolding quotient
quotient_nearest {x} {y = pos zero} hx nonzero other = absurd (nonzero refl)
quotient_nearest {x} {y = pos (suc b)} hx nonzero other = rw (clamp_exact (nearest_fits x hx (zero-lt-suc b))) (nearest_is x (zero-lt-suc b))
quotient_nearest {x} {y = negsuc b} hx nonzero other = rw (clamp_exact (negated_fits x b hx other)) (nearest_below x b)
