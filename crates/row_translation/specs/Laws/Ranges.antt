-- The numbers of a term that stands fit the nodes, and its variables the state. Assumes nothing.
use Rattle.std.specs.Prelude.{◌≡◌, refl, true, List, ℕ, ◌+◌, ◌≤◌, ◌<◌, ℤ, pos, length, get_or}
use Rattle.std.proofs.Common.{ap, sym, ◌∙◌, arith}
use Rattle.words.specs.Kinds.{word_var, word_lit, word_redseq}
use Rattle.words.specs.Words.{table, operands_of}
use Rattle.meaning.specs.Types.{DataType, Series}
use Rattle.meaning.specs.Terms.{Term}
use Rattle.meaning.specs.Expressions.{Expression}
use Rattle.meaning.proofs.Laws.Bounds.{width_is_count}
use Rattle.syntax.specs.Ranges.{as_natural}
use Rattle.syntax.specs.InRange.{TermInRange}
use Rattle.syntax.specs.Standing.{term_kind, term_number}
use Rattle.syntax.proofs.Standing.{its_kind, its_number, leaf_kind, three_operands}
use Rattle.syntax.proofs.Shapes.{Leaf, as_leaf, Reduction, as_reduction, Map, as_map, map_opens}
use Rattle.row_translation.specs.WriteAndUse.{Stands}
use Rattle.words.specs.Groups.{is_leaf, is_map}
use Rattle.clauses.specs.declared.State.{State}

number_few : (K v : ℕ) (e : Term) → (term_kind e ≡ word_lit → ⊥) → K ≤ 8 → v ≤ 16 → TermInRange K v e → term_number e < 65536
number_few K v (Term.input k) f h g r = omega (arith, r)
number_few K v (Term.variable d) f h g r = omega (arith, r)
number_few K v (Term.literal z) f h g r = absurd (f refl)
number_few K v (Term.negate e) f h g r = omega arith
number_few K v (Term.operation o e d) f h g r = omega arith
number_few K v (Term.map m a b) f h g r = omega arith
number_few K v (Term.reduce z a b) f h g r = omega arith
number_few K v (Term.zip a b) f h g r = omega arith
number_few K v (Term.pair a b) f h g r = omega arith
number_few K v (Term.split Series.arrays n e) f h g r = omega (arith, r.0)
number_few K v (Term.split Series.vectors n e) f h g r = omega (arith, width_is_count n r.0)
number_few K v (Term.join series e) f h g r = omega arith
number_few K v (Term.first e) f h g r = omega arith
number_few K v (Term.second e) f h g r = omega arith
number_few K v (Term.index Series.arrays k e) f h g r = omega (arith, r.0)
number_few K v (Term.index Series.vectors k e) f h g r = omega (arith, r.0)

variable_below : (K v : ℕ) (e : Term) → term_kind e ≡ word_var → TermInRange K v e → term_number e < v
unfolding operands_of table
variable_below K v e h r = go (as_leaf e (leaf_kind e (ap is_leaf h))) h r
  where
    go : {e : Term} → Leaf e → term_kind e ≡ word_var → TermInRange K v e → term_number e < v
    go (Leaf.input k) h r = absurd (omega arith)
    go (Leaf.variable d) h r = r
    go (Leaf.literal z) h r = absurd (omega arith)

map_scope : (K v : ℕ) {e : Term} → Map e → TermInRange K v e → v + 1 ≤ 16
map_scope K v (Map.of m a b) r = r.0

reduce_scope : (K v : ℕ) {e : Term} → Reduction e → TermInRange K v e → v + 2 ≤ 16
reduce_scope K v (Reduction.of z a b) r = r.0

module _ (ks : List ℕ) (ns : List ℤ) (C Y : List ℕ) (N : List ℤ) (T : List ℕ) (s : State) (I Γ : List DataType) (Δ : List Expression) (e : Term)
    (S : Stands ks ns C Y N T s I Γ Δ e) (k n : ℕ) (ek : k ≡ get_or ks 0 0) (en : n ≡ as_natural (get_or ns 0 (pos 0))) where
  kind : k ≡ term_kind e
  kind = ek ∙ its_kind ks ns (length I) (length Γ) e S.rows

  scope : s.count ≡ length Γ
  scope = S.variables.count ∙ S.named

  number : n ≡ term_number e
  number = en ∙ its_number ks ns (length I) (length Γ) e S.rows

  -- the number of every row but a literal's
  pub number_fits : (k ≡ word_lit → ⊥) → n < 65536
  number_fits h = omega (arith, number, number_few (length I) (length Γ) e (λ x. h (kind ∙ x)) S.inputs (omega (arith, scope, S.variables.few)) S.rows.in_range)

  pub variable_fits : k ≡ word_var → n < s.count
  variable_fits h =
      omega (arith, number, scope, variable_below (length I) (length Γ) e (sym kind ∙ h) S.rows.in_range)

  -- there is room for the variable of a map's body, and for the two of a reduction's
  pub map_fits : is_map k ≡ true → s.count < 16
  map_fits h = omega (arith, scope, map_scope (length I) (length Γ) (as_map e (map_opens e (ap is_map (sym kind) ∙ h))) S.rows.in_range)

  pub reduction_fits : k ≡ word_redseq → s.count + 1 < 16
  reduction_fits h = omega (arith, scope, reduce_scope (length I) (length Γ) (as_reduction e (three_operands e (sym kind ∙ h))) S.rows.in_range)
