-- The pass from the last row to the first keeps the rule of the ends at every row that it has passed. Assumes nothing.
use mathlib.Core.Path.{◌≡◌, refl, sym, ap, subst, ◌∙◌}
use mathlib.Core.List.{List}
use mathlib.Core.Logic.{◌⊎◌, inl, inr}
use Prim.Native.Nat.{ℕ, zero, suc, ◌+◌, ◌≤◌, ◌<◌}
use native.Mathlib.Omega.{arith}
use lib.ListN.{length, get_or, set}
use Rattle.columns.specs.Ends.{operands_of, end_by}
use Rattle.columns.proofs.Puts.{put_here, put_there, here_or_later}

abbrev pub Within : ℕ → List ℕ → ℕ → Type 0
Within n es q = (p : ℕ) → q ≤ p → p ≤ n → (p ≤ get_or es p 0) × (get_or es p 0 ≤ n)

abbrev pub Rule : List ℕ → List ℕ → ℕ → Type 0
Rule ks es q = (p : ℕ) → q ≤ p → p < length ks → get_or es p 0 ≡ end_by (operands_of (get_or ks p 0)) (λ (i : ℕ). get_or es i 0) p

-- what holds when the rows from q on are passed
pub record EndsFrom (ks es : List ℕ) (q : ℕ) : Type 0 where
  pub within : Within (length ks) es q
  pub rule : Rule ks es q

-- the rule reads later rows only
bounded : (a : ℕ) (es : List ℕ) (t n : ℕ) → t < n → Within n es (suc t)
    → (t ≤ end_by a (λ (i : ℕ). get_or es i 0) t) × (end_by a (λ (i : ℕ). get_or es i 0) t ≤ n)
unfolding end_by
bounded zero es t n h w = (omega arith, omega arith)
bounded (suc zero) es t n h w = let f = w (t + 1) (omega arith) (omega arith) in (omega (arith, f.0), f.1)
bounded (suc (suc a)) es t n h w =
    let f = w (t + 1) (omega arith) (omega arith) in
    let g = w (get_or es (t + 1) 0) (omega (arith, f.0)) f.1 in (omega (arith, f.0, g.0), g.1)

unmoved : (a : ℕ) (es : List ℕ) (x q p n : ℕ) → q ≤ p → p < n → Within n es (suc q)
    → end_by a (λ (i : ℕ). get_or es i 0) p ≡ end_by a (λ (i : ℕ). get_or (set es q x) i 0) p
unfolding end_by
unmoved zero es x q p n h l w = refl
unmoved (suc zero) es x q p n h l w = sym (put_there es q (p + 1) x (omega arith))
unmoved (suc (suc a)) es x q p n h l w =
    let f = w (p + 1) (omega arith) (omega arith) in
    sym (ap (λ (i : ℕ). get_or (set es q x) i 0) (put_there es q (p + 1) x (omega arith))
    ∙ put_there es q (get_or es (p + 1) 0) x (omega (arith, f.0)))

pub ends_again : (ks es : List ℕ) (q t x : ℕ) → EndsFrom ks es q → suc t ≡ q → q ≤ length ks → t < length es
    → x ≡ end_by (operands_of (get_or ks t 0)) (λ (i : ℕ). get_or es i 0) t → EndsFrom ks (set es t x) t
ends_again ks es q t x i e h l v = record { within = within; rule = rule }
  where
    w : Within (length ks) es (suc t)
    w = subst (λ (j : ℕ). Within (length ks) es j) (sym e) i.within

    r : Rule ks es (suc t)
    r = subst (λ (j : ℕ). Rule ks es j) (sym e) i.rule

    b : (t ≤ x) × (x ≤ length ks)
    b = subst (λ (y : ℕ). (t ≤ y) × (y ≤ length ks)) (sym v) (bounded (operands_of (get_or ks t 0)) es t (length ks) (omega (arith, e, h)) w)

    within : Within (length ks) (set es t x) t
    within p a c = go (here_or_later t p a)
      where
        go : (t ≡ p) ⊎ (suc t ≤ p) → (p ≤ get_or (set es t x) p 0) × (get_or (set es t x) p 0 ≤ length ks)
        go (inl s) = subst (λ (j : ℕ). (j ≤ get_or (set es t x) j 0) × (get_or (set es t x) j 0 ≤ length ks)) s
            (subst (λ (y : ℕ). (t ≤ y) × (y ≤ length ks)) (sym (put_here es t x l)) b)
        go (inr s) = subst (λ (y : ℕ). (p ≤ y) × (y ≤ length ks)) (sym (put_there es t p x s)) (w p s c)

    rule : Rule ks (set es t x) t
    rule p a c = go (here_or_later t p a)
      where
        go : (t ≡ p) ⊎ (suc t ≤ p) → get_or (set es t x) p 0 ≡ end_by (operands_of (get_or ks p 0)) (λ (i : ℕ). get_or (set es t x) i 0) p
        go (inl s) = subst (λ (j : ℕ). get_or (set es t x) j 0 ≡ end_by (operands_of (get_or ks j 0)) (λ (i : ℕ). get_or (set es t x) i 0) j) s
            (put_here es t x l ∙ v ∙ unmoved (operands_of (get_or ks t 0)) es x t t (length ks) (omega arith) (omega (arith, e, h)) w)
        go (inr s) = put_there es t p x s ∙ r p s c ∙ unmoved (operands_of (get_or ks p 0)) es x t p (length ks) a c w
