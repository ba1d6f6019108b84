-- A column keeps its rule at every row that the pass from the last row to the first has passed; and the first "no" with it. Assumes nothing.
use mathlib.Core.Bool.{Bool, true, false, cond}
use mathlib.Core.Path.{◌≡◌, refl, sym, ap, ap₂, subst, ◌∙◌}
use mathlib.Core.List.{List}
use mathlib.Core.Logic.{◌⊎◌, inl, inr}
use mathlib.Core.Option.{Option, none, some}
use Prim.Native.Nat.{ℕ, zero, suc, ◌+◌, ◌-◌, ◌≤◌, ◌<◌}
use native.Mathlib.Omega.{arith}
use lib.IntN.{ℤ, pos}
use lib.ListN.{length, get_or, set}
use Rattle.refusals.specs.declared.Refusal.{Refusal}
use Rattle.refusals.specs.declared.Refusal.TheVariants.{OffsetBound}
use Rattle.syntax.specs.Ranges.{as_natural}
use Rattle.columns.specs.Figures.{Column}
use Rattle.std.specs.Prelude.{Result, Ok, Err}
use Rattle.columns.specs.Asking.{no_by, no_at, first_from, told}
use Rattle.columns.proofs.Puts.{put_here, put_there, put_other, here_or_later}

-- ---- a column

-- row t is put in
pub column_again : (n : ℕ) (es cs : List ℕ) (R : ℕ → ℕ → ℕ → ℕ) (q t x : ℕ)
    → ((p : ℕ) → p ≤ n → (p ≤ get_or es p 0) × (get_or es p 0 ≤ n))
    → suc t ≡ q → q ≤ n → t < length cs → Column n es cs R q
    → x ≡ R t (get_or cs (t + 1) 0) (get_or cs (get_or es (t + 1) 0) 0) → Column n es (set cs t x) R t
column_again n es cs R q t x w e h l i v p a b = go (here_or_later t p a)
  where
    same : (p : ℕ) → t ≤ p → p < n → R p (get_or cs (p + 1) 0) (get_or cs (get_or es (p + 1) 0) 0)
        ≡ R p (get_or (set cs t x) (p + 1) 0) (get_or (set cs t x) (get_or es (p + 1) 0) 0)
    same p a b =
        let f = w (p + 1) (omega arith) in
        ap₂ (R p) (sym (put_there cs t (p + 1) x (omega arith))) (sym (put_there cs t (get_or es (p + 1) 0) x (omega (arith, f.0, a))))

    go : (t ≡ p) ⊎ (suc t ≤ p) → get_or (set cs t x) p 0 ≡ R p (get_or (set cs t x) (p + 1) 0) (get_or (set cs t x) (get_or es (p + 1) 0) 0)
    go (inl s) =
        subst (λ (j : ℕ). get_or (set cs t x) j 0 ≡ R j (get_or (set cs t x) (j + 1) 0) (get_or (set cs t x) (get_or es (j + 1) 0) 0)) s
        (put_here cs t x l ∙ v ∙ same t (omega arith) (omega (arith, e, h)))
    go (inr s) = put_there cs t p x s ∙ i p (omega (arith, s, e)) b ∙ same p a b

-- rows that the pass has not reached are as they were
abbrev pub Before : List ℕ → List ℕ → ℕ → Type 0
Before ms cs q = (p : ℕ) → p < q → get_or cs p 0 ≡ get_or ms p 0

pub before_again : (ms cs : List ℕ) (q t x : ℕ) → suc t ≡ q → Before ms cs q → Before ms (set cs t x) t
before_again ms cs q t x e i p h = put_other cs t p x (λ s. absurd (omega (arith, h, s))) ∙ i p (omega (arith, h, e))

-- ---- the first "no"

pub none_left : (bad : ℕ → Bool) (q : ℕ) → first_from bad q 0 ≡ none
unfolding first_from
none_left bad q = refl

first_same : (bad worse : ℕ → Bool) (q n : ℕ) → ((p : ℕ) → q ≤ p → bad p ≡ worse p) → first_from bad q n ≡ first_from worse q n
unfolding first_from
first_same bad worse q zero h = refl
first_same bad worse q (suc n) h =
    ap₂ (λ (b : Bool) (o : Option Refusal). cond b (some (OffsetBound (q + 1))) o) (h q (omega arith))
    (first_same bad worse (q + 1) n (λ p l. h p (omega (arith, l))))

told_first : (t : ℕ) (o : Option Refusal) (b : Bool) → told (tt {0}) (cond b (some (OffsetBound (t + 1))) o) ≡ cond b (Err (OffsetBound (t + 1))) (told (tt {0}) o)
told_first t o true = refl
told_first t o false = refl

module _ (ks : List ℕ) (ns : List ℤ) (ms ins : List ℕ) (out : ℕ) where
  -- the first "no" of the rows from q on has been told
  abbrev pub NoFrom : List ℕ → ℕ → Result Unit Refusal → Type 0
  NoFrom cs q r = r ≡ told (tt {0}) (first_from (no_at ks ns ms cs ins out) q (length ks - q))

  pub no_begin : (cs : List ℕ) (q : ℕ) → length ks ≡ q → NoFrom cs q (Ok (tt {0}))
  no_begin cs q e =
      ap (told (tt {0}))
      (sym (ap (first_from (no_at ks ns ms cs ins out) q) (let s : length ks - q ≡ 0 = omega (arith, e) in s) ∙ none_left (no_at ks ns ms cs ins out) q))

  pub no_again : (cs : List ℕ) (q t x : ℕ) (r s : Result Unit Refusal) (b : Bool) → suc t ≡ q → q ≤ length ks → Before ms cs q → NoFrom cs q r
      → b ≡ no_at ks ns cs cs ins out t → s ≡ cond b (Err (OffsetBound (t + 1))) r → NoFrom (set cs t x) t s
  unfolding first_from
  no_again cs q t x r s b e l w i g f =
      f ∙ ap (cond b (Err (OffsetBound (t + 1)))) i ∙ sym (told_first t (first_from (no_at ks ns ms cs ins out) q (length ks - q)) b)
      ∙ sym (ap (told (tt {0})) (ap (first_from (no_at ks ns ms (set cs t x) ins out) t) (let s : length ks - t ≡ suc (length ks - q) = omega (arith, e, l) in s)
      ∙ ap₂ (λ (y : Bool) (o : Option Refusal). cond y (some (OffsetBound (t + 1))) o) here later))
    where
      unmoved : (p : ℕ) → t ≤ p → no_at ks ns ms (set cs t x) ins out p ≡ no_at ks ns ms cs ins out p
      unmoved p h =
          ap (λ (v : ℕ). no_by (get_or ks p 0) (as_natural (get_or ns p (pos 0))) (get_or ms p 0) v ins out) (put_there cs t (p + 1) x (omega (arith, h)))

      here : no_at ks ns ms (set cs t x) ins out t ≡ b
      here =
          unmoved t (omega arith)
          ∙ ap (λ (m : ℕ). no_by (get_or ks t 0) (as_natural (get_or ns t (pos 0))) m (get_or cs (t + 1) 0) ins out) (sym (w t (omega (arith, e))))
          ∙ sym g

      later : first_from (no_at ks ns ms (set cs t x) ins out) (t + 1) (length ks - q) ≡ first_from (no_at ks ns ms cs ins out) q (length ks - q)
      later =
          ap (λ (j : ℕ). first_from (no_at ks ns ms (set cs t x) ins out) j (length ks - q)) (let s : t + 1 ≡ q = omega (arith, e) in s)
          ∙ first_same (no_at ks ns ms (set cs t x) ins out) (no_at ks ns ms cs ins out) q (length ks - q) (λ p h. unmoved p (omega (arith, h, e)))
