-- [6.22] Groups of n: element j of group i is element n * i + j of the flat array. Laws of quotient and remainder.
use Rattle.std.specs.Prelude.{◌≡◌, ℕ, zero, suc, ◌+◌, ◌*◌, ◌/◌, ◌%◌, ◌≤◌, ◌<◌}
use Rattle.std.proofs.Common.{sym, ap, ◌∙◌, subst, mul-le-mul_right, suc-mul, mul-zero, not-suc-le-zero, div-lt_iff_lt-mul, mod-lt, mod-eq_of_lt, mul_comm, arith}
use Rattle.std.proofs.Math.Nat.{mul-add-div, div-eq_of_lt, mul-add-mod_self_left}

pub group_below : {i j m n : ℕ} → i < m → j < n → n * i + j < m * n
group_below {i} {j} {m} {n} h k =
    let r : suc i * n ≤ m * n = mul-le-mul_right n h in
    let e : suc i * n ≡ i * n + n = suc-mul i n in
    let f : i * n ≡ n * i = mul_comm i n in
    omega arith

group_positive : (e m n : ℕ) → e < m * n → 0 < n
group_positive e m zero h = absurd (not-suc-le-zero (subst (λ (j : ℕ). e < j) (mul-zero m) h))
group_positive e m (suc n) h = omega arith

pub quotient_below : (e m n : ℕ) → e < m * n → e / n < m
quotient_below e m n h = (div-lt_iff_lt-mul (group_positive e m n h)).1 h

pub remainder_below : (e m n : ℕ) → e < m * n → e % n < n
remainder_below e m n h = mod-lt e (group_positive e m n h)

pub quotient_of_group : (n i j : ℕ) → j < n → (n * i + j) / n ≡ i
quotient_of_group n i j h =
    let r : (n * i + j) / n ≡ i + j / n = mul-add-div {m = n} (omega arith) i j in
    let e : j / n ≡ 0 = div-eq_of_lt h in
    omega arith

pub remainder_of_group : (n i j : ℕ) → j < n → (n * i + j) % n ≡ j
remainder_of_group n i j h = mul-add-mod_self_left n i j ∙ mod-eq_of_lt h

pub group_injective : (n i j x y : ℕ) → x < n → y < n → n * i + x ≡ n * j + y → (i ≡ j) × (x ≡ y)
group_injective n i j x y h k e = (
  sym (quotient_of_group n i x h) ∙ ap (λ (z : ℕ). z / n) e ∙ quotient_of_group n j y k,
  sym (remainder_of_group n i x h) ∙ ap (λ (z : ℕ). z % n) e ∙ remainder_of_group n j y k,
)
