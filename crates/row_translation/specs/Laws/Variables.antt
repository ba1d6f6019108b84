-- The variables' nodes read the same expressions while the table of references grows; a map's body has one variable more, a
-- reduction's two. Assumes nothing.
use Rattle.std.specs.Prelude.{◌≡◌, List, ◌∷◌, ℕ, zero, suc, ◌+◌, ◌-◌, ◌≤◌, ◌<◌, ℤ, length, get_or, set}
use Rattle.std.proofs.Common.{ap, sym, ◌∙◌, arith, length-set, get_or-set_same, get_or-set_other}
use Rattle.meaning.specs.Expressions.{Expression}
use Rattle.meaning.specs.Translation.{no_expression}
use Rattle.emission.specs.References.{expression_at}
use Rattle.emission.specs.Growth.{Grown}
use Rattle.row_translation.specs.WriteAndUse.{Variables}
use Rattle.clauses.specs.Clauses.{SameVariables}
use Rattle.emission.specs.Laws.Readings.{reads_on}
use Rattle.clauses.specs.declared.State.{State}

-- the first `count` of vs, all below m, read Δ, innermost first
abbrev Each : List ℕ → List ℤ → List ℕ → List ℕ → ℕ → ℕ → List Expression → Type 0
Each Y N T vs count m Δ =
    (d : ℕ) → d < length Δ
    → (get_or vs (count - (d + 1)) 0 < m) × (expression_at Y N T (get_or vs (count - (d + 1)) 0) ≡ get_or Δ d no_expression)

module _ (Y : List ℕ) (N : List ℤ) where
  each_kept : (T U vs : List ℕ) (count m m' : ℕ) (Δ : List Expression) → m ≤ m' → Grown T U m → Each Y N T vs count m Δ → Each Y N U vs count m' Δ
  each_kept T U vs count m m' Δ h g E d p =
      let x = E d p in
      (omega (arith, x.0), reads_on T U m (get_or vs (count - (d + 1)) 0) x.0 g Y N ∙ x.1)

  -- one more, node x
  each_more : (T vs : List ℕ) (count m x : ℕ) (F : Expression) (Δ : List Expression) → count ≡ length Δ → count < length vs
      → x < m → expression_at Y N T x ≡ F → Each Y N T vs count m Δ → Each Y N T (set vs count x) (count + 1) m (F ∷ Δ)
  each_more T vs count m x F Δ ec hc hx ex E zero p =
      let q : count ≡ count + 1 - (0 + 1) = omega arith in
      let r : get_or (set vs count x) (count + 1 - (0 + 1)) 0 ≡ x = ap (λ (i : ℕ). get_or (set vs count x) i 0) (sym q) ∙ get_or-set_same vs count x 0 hc in
      (omega (arith, r), ap (expression_at Y N T) r ∙ ex)
  each_more T vs count m x F Δ ec hc hx ex E (suc d) p =
      let h : d < length Δ = omega (arith, p) in
      let q : count + 1 - (suc d + 1) ≡ count - (d + 1) = omega arith in
      let r : get_or (set vs count x) (count + 1 - (suc d + 1)) 0 ≡ get_or vs (count - (d + 1)) 0
      = ap (λ (i : ℕ). get_or (set vs count x) i 0) q ∙ get_or-set_other vs count (count - (d + 1)) x 0 (λ e. absurd (omega (arith, h, ec, e))) in
      (omega (arith, r, (E d h).0), ap (expression_at Y N T) r ∙ (E d h).1)

  module _ (T U : List ℕ) (s s' : State) (Δ : List Expression) (v : Variables Y N T s Δ) (g : Grown T U s.len) (h : s.len ≤ s'.len) where
    pub variables_kept : SameVariables s s' → Variables Y N U s' Δ
    variables_kept q =
        let E : Each Y N U s.variables s.count s'.len Δ = each_kept T U s.variables s.count s.len s'.len Δ h g v.each in
        record {
          each = rw (q.variables, q.count) E;
          count = q.count ∙ v.count;
          few = omega (arith, q.count, v.few);
          long = ap length q.variables ∙ v.long;
        }

    -- node x is the variable
    pub variables_one : (x : ℕ) (F : Expression) → s.count < 16 → x < s'.len → expression_at Y N U x ≡ F
        → s'.variables ≡ set s.variables s.count x → s'.count ≡ s.count + 1 → Variables Y N U s' (F ∷ Δ)
    variables_one x F hc hx ex ev ec =
        let E : Each Y N U s.variables s.count s'.len Δ = each_kept T U s.variables s.count s.len s'.len Δ h g v.each in
        record {
          each = rw (ev, ec) (each_more U s.variables s.count s'.len x F Δ v.count (omega (arith, v.long)) hx ex E);
          count = omega (arith, ec, v.count);
          few = omega (arith, ec, hc);
          long = ap length ev ∙ length-set s.variables s.count x ∙ v.long;
        }

    -- node y is the innermost, node x the other
    pub variables_two : (x y : ℕ) (F G : Expression) → s.count + 1 < 16 → x < s'.len → y < s'.len → expression_at Y N U x ≡ F → expression_at Y N U y ≡ G
        → s'.variables ≡ set (set s.variables s.count x) (s.count + 1) y → s'.count ≡ s.count + 2 → Variables Y N U s' (G ∷ F ∷ Δ)
    variables_two x y F G hc hx hy ex ey ev ec =
        let vs : List ℕ = set s.variables s.count x in
        let l : length vs ≡ 16 = length-set s.variables s.count x ∙ v.long in
        let E : Each Y N U s.variables s.count s'.len Δ = each_kept T U s.variables s.count s.len s'.len Δ h g v.each in
        let E₁ : Each Y N U vs (s.count + 1) s'.len (F ∷ Δ) = each_more U s.variables s.count s'.len x F Δ v.count (omega (arith, v.long)) hx ex E in
        let c : s.count + 1 ≡ length (F ∷ Δ) = omega (arith, v.count) in
        let q : s.count + 1 + 1 ≡ s'.count = omega (arith, ec) in
        let E₂ : Each Y N U (set vs (s.count + 1) y) (s.count + 1 + 1) s'.len (G ∷ F ∷ Δ) = each_more U vs (s.count + 1) s'.len y G (F ∷ Δ) c (omega (arith, l)) hy ey E₁ in
        record {
          each = rw (ev, sym q) E₂;
          count = omega (arith, ec, v.count);
          few = omega (arith, ec, hc);
          long = ap length ev ∙ length-set vs (s.count + 1) y ∙ l;
        }
