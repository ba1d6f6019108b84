-- One more variable: it is variable 0, and the others are one further out.
use Rattle.std.specs.Prelude.{◌≡◌, List, ◌∷◌, ℕ, zero, suc, ◌+◌, ◌-◌, ◌<◌, length, get_or, set}
use Rattle.std.proofs.Common.{refl, ap, sym, subst, ◌∙◌, arith, length-set, get_or-set_same, get_or-set_other}
use Rattle.meaning.specs.Types.{DataType, number}
use Rattle.type_table.specs.Table.{type_at}
use Rattle.type_table.specs.Columns.{Names}
use Rattle.type_rules.specs.declared.scope.Scope.{Scope}
use Rattle.type_rules.specs.Scopes.{InForce}

module _ (T : List ℕ) (m : ℕ) (s : Scope) (I Γ : List DataType) (p : ℕ) (F : InForce T m s I Γ) (h : p < m) (room : s.count < 16) where
  innermost : get_or (set s.variables s.count p) (s.count + 1 - (0 + 1)) 0 ≡ p
  innermost =
      ap (λ (i : ℕ). get_or (set s.variables s.count p) i 0) (let e : s.count + 1 - (0 + 1) ≡ s.count = omega arith in e)
      ∙ get_or-set_same s.variables s.count p 0 (omega (arith, F.long))

  outer : (d : ℕ) → d < length Γ
      → get_or (set s.variables s.count p) (s.count + 1 - (suc d + 1)) 0 ≡ get_or s.variables (s.count - (d + 1)) 0
  outer d k =
      ap (λ (i : ℕ). get_or (set s.variables s.count p) i 0) (let e : s.count + 1 - (suc d + 1) ≡ s.count - (d + 1) = omega arith in e)
      ∙ get_or-set_other s.variables s.count (s.count - (d + 1)) p 0 (λ e. omega (arith, F.count))

  named : (d : ℕ) → d < length (type_at T p ∷ Γ)
      → Names T m (get_or (set s.variables s.count p) (s.count + 1 - (d + 1)) 0) (get_or (type_at T p ∷ Γ) d number)
  named zero k = subst (λ (x : ℕ). Names T m x (type_at T p)) (sym innermost) (h, refl)
  named (suc d) k = subst (λ (x : ℕ). Names T m x (get_or Γ d number)) (sym (outer d (omega arith))) (F.variables d (omega arith))

  pub one_more : InForce T m record { inputs = s.inputs; variables = set s.variables s.count p; count = s.count + 1 } I (type_at T p ∷ Γ)
  one_more = record {
    inputs = F.inputs;
    variables = named;
    count = omega (arith, F.count);
    few = F.few;
    deep = omega (arith, room);
    long = length-set s.variables s.count p ∙ F.long;
  }
