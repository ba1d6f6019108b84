-- A use of an input, a variable or a literal. Assumes nothing.
use Rattle.std.specs.Prelude.{◌≡◌, true, ℕ, ◌+◌, ◌-◌, ◌≤◌, ◌<◌, ℤ, pos, length, drop}
use Rattle.std.proofs.Math.Path.{refl, ap, ap₂, sym}
use Rattle.std.proofs.Common.{subst, ◌∙◌, get_or-drop}
use mathlib.Core.List.{List, [], ◌∷◌}
use native.Mathlib.Omega.{arith}
use Rattle.std.proofs.Math.ListN.{get_or}
use Rattle.words.specs.Kinds.{Row, rows_of, word_kind_in, word_var, word_lit}
use Rattle.words.specs.Groups.{is_leaf}
use Rattle.meaning.specs.Types.{DataType, number}
use Rattle.meaning.specs.Terms.{Term}
use Rattle.meaning.specs.Expressions.{Expression}
use Rattle.meaning.specs.Rows.{term_rows}
use Rattle.meaning.proofs.Laws.UseRows.{use_rows, expression_of, regions_opened}
use Rattle.syntax.specs.Ranges.{as_natural}
use Rattle.syntax.specs.Standing.{term_kind, operand_count}
use Rattle.syntax.proofs.Shapes.{Leaf, as_leaf}
use Rattle.syntax.proofs.Standing.{its_kind, its_number, leaf_kind, rows_of_none}
use Rattle.type_table.specs.Table.{type_at}
use Rattle.emission.specs.Nodes.{node_of}
use Rattle.emission.specs.Table.{Table, put_rows}
use Rattle.emission.specs.References.{expression_at}
use Rattle.emission.specs.Growth.{Grown, Pushed}
use Rattle.emission.specs.Laws.Growth.{grown_none}
use Rattle.row_translation.specs.WriteAndUse.{Stands, Used}
use Rattle.clauses.specs.Clauses.{NodeUsed, VariableUsed, LeafUsed}
use Rattle.emission.specs.Laws.Readings.{pushed_reads}
use Rattle.row_translation.specs.Laws.Operands.{type_here}
use Rattle.clauses.specs.declared.State.{State}
use Rattle.clauses.specs.declared.Translated.{Translated}

first_number : (ks : List ℕ) (ns : List ℤ) (k : ℕ) (z : ℤ) (R : List Row) → rows_of ks ns ≡ (k, z) ∷ R → get_or ns 0 (pos 0) ≡ z
unfolding rows_of
first_number [] ns k z R e = absurd (let y : ◌≡◌ {A = ℕ} 0 1 = cc in omega arith)
first_number (x ∷ ks) [] k z R e = absurd (let y : ◌≡◌ {A = ℕ} 0 1 = cc in omega arith)
first_number (x ∷ ks) (n ∷ ns) k z R e = let h : ◌≡◌ {A = Row} (x, n) (k, z) = cc in ap (λ (r : Row). r.1) h

module _ (Y : List ℕ) (N : List ℤ) (I Γ : List DataType) (Δ : List Expression) (s : State) (T U : List ℕ) (o : Table) (r : Translated) where
  -- a term of one row that puts none and opens no region
  used_here : (e : Term) → operand_count e ≡ 0 → regions_opened e ≡ 0 → use_rows I e Γ Δ s.counters s.regions ≡ []
      → r.rows ≡ 1 → r.regions ≡ s.regions → expression_at Y N U r.value ≡ expression_of I e Γ Δ s.regions
      → r.value < r.len → Grown T U s.len → s.len ≤ r.len → r.len ≤ s.len + 1
      → Used Y N I Γ Δ e s T U o o r
  unfolding put_rows
  used_here e h g q er ereg ev hv gr more few = record {
    passed = omega (arith, er, rows_of_none e h);
    rows = ap (λ (l : List Row). put_rows l o) (sym q);
    value = ev;
    below = hv;
    regions = omega (arith, ereg, g);
    grown = gr;
    more = more;
    few = omega (arith, few, rows_of_none e h);
  }

  -- of kind k and number n, its type at place p, in a row of the plan
  by_leaf : {e : Term} → Leaf e → (ks : List ℕ) (ns : List ℤ) (C : List ℕ) (k n p row : ℕ) → Stands ks ns C Y N T s I Γ Δ e
      → k ≡ get_or ks 0 0 → n ≡ as_natural (get_or ns 0 (pos 0)) → p ≡ get_or C 0 0 → row ≡ length N - length ns
      → 1 ≤ s.len → s.len < 1024 → p < 65536 → row < 65536 → length T ≡ 1024
      → LeafUsed T U k n p row s r → Used Y N I Γ Δ e s T U o o r
  unfolding use_rows expression_of term_rows
  by_leaf (Leaf.input j) ks ns C k n p row S ek en ep ew h1 hl hp hw hT L =
      let f : k ≡ word_kind_in = ek ∙ its_kind ks ns (length I) (length Γ) (Term.input j) S.rows in
      let g : n ≡ j = en ∙ its_number ks ns (length I) (length Γ) (Term.input j) S.rows in
      let t : type_at Y p ≡ get_or I j number = ap (type_at Y) ep ∙ (type_here ks ns C Y N T s I Γ Δ (Term.input j) S).1 in
      let B : Pushed T U s.len (node_of word_kind_in p n 0 0) × NodeUsed s r = L.input f in
      let A : NodeUsed s r = B.1 in
      used_here (Term.input j) refl refl refl A.rows A.regions
      (ap (expression_at Y N U) A.value
      ∙ pushed_reads T U s.len word_kind_in p n 0 0 B.0 hl hp (omega (arith, g, S.rows.in_range, S.inputs)) (omega arith) (omega arith) Y N
      ∙ ap₂ Expression.input g t)
      (omega (arith, A.value, A.len)) B.0.grown (omega (arith, A.len)) (omega (arith, A.len))
  by_leaf (Leaf.variable d) ks ns C k n p row S ek en ep ew h1 hl hp hw hT L =
      let f : k ≡ word_var = ek ∙ its_kind ks ns (length I) (length Γ) (Term.variable d) S.rows in
      let g : n ≡ d = en ∙ its_number ks ns (length I) (length Γ) (Term.variable d) S.rows in
      let A : VariableUsed T U n s r = L.variable f in
      let x = S.variables.each d (omega (arith, S.rows.in_range, S.named)) in
      let v : r.value ≡ get_or s.variables (s.count - (d + 1)) 0 = A.value ∙ ap (λ (i : ℕ). get_or s.variables (s.count - (i + 1)) 0) g in
      used_here (Term.variable d) refl refl refl A.rows A.regions
      (ap₂ (expression_at Y N) A.same v ∙ x.1)
      (omega (arith, v, x.0, A.len)) (subst (λ (l : List ℕ). Grown T l s.len) (sym A.same) (grown_none T s.len hT)) (omega (arith, A.len)) (omega (arith, A.len))
  by_leaf (Leaf.literal z) ks ns C k n p row S ek en ep ew h1 hl hp hw hT L =
      let f : k ≡ word_lit = ek ∙ its_kind ks ns (length I) (length Γ) (Term.literal z) S.rows in
      let B : Pushed T U s.len (node_of word_lit 0 row 0 0) × NodeUsed s r = L.literal f in
      let A : NodeUsed s r = B.1 in
      let q : row + 0 ≡ row = omega arith in
      let w : get_or N row (pos 0) ≡ z
      = ap (λ (i : ℕ). get_or N i (pos 0)) (sym q) ∙ sym (get_or-drop row N 0 (pos 0)) ∙ ap (λ (i : ℕ). get_or (drop i N) 0 (pos 0)) ew
      ∙ ap (λ (l : List ℤ). get_or l 0 (pos 0)) (sym S.literals.1) ∙ first_number ks ns word_lit z S.rows.rest S.rows.rows in
      used_here (Term.literal z) refl refl refl A.rows A.regions
      (ap (expression_at Y N U) A.value
      ∙ pushed_reads T U s.len word_lit 0 row 0 0 B.0 hl (omega arith) hw (omega arith) (omega arith) Y N
      ∙ ap Expression.literal w)
      (omega (arith, A.value, A.len)) B.0.grown (omega (arith, A.len)) (omega (arith, A.len))

  pub used_leaf : (e : Term) (ks : List ℕ) (ns : List ℤ) (C : List ℕ) (k n p row : ℕ) → Stands ks ns C Y N T s I Γ Δ e
      → k ≡ get_or ks 0 0 → n ≡ as_natural (get_or ns 0 (pos 0)) → p ≡ get_or C 0 0 → row ≡ length N - length ns → is_leaf k ≡ true
      → 1 ≤ s.len → s.len < 1024 → p < 65536 → row < 65536 → length T ≡ 1024
      → LeafUsed T U k n p row s r → Used Y N I Γ Δ e s T U o o r
  used_leaf e ks ns C k n p row S ek en ep ew hk h1 hl hp hw hT L =
      let f : k ≡ term_kind e = ek ∙ its_kind ks ns (length I) (length Γ) e S.rows in
      by_leaf (as_leaf e (leaf_kind e (ap is_leaf (sym f) ∙ hk))) ks ns C k n p row S ek en ep ew h1 hl hp hw hT L
