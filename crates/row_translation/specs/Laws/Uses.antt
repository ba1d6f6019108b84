-- A use of a term from the uses of its operands and the clause around them: one law for each way out. o is the table of rows at
-- the beginning. Assumes nothing.
use Rattle.std.specs.Prelude.{◌≡◌, refl, true, false, ℤ, pos, length, get_or}
use Rattle.std.proofs.Math.Path.{ap, ap₂, sym}
use Rattle.std.proofs.Common.{◌∙◌, arith}
use mathlib.Core.List.{List, []}
use Prim.Native.Nat.{ℕ, suc, ◌+◌, ◌≤◌, ◌<◌}
use Rattle.std.proofs.Math.Numerals.{add-one}
use Rattle.words.specs.Kinds.{Row, word_redseq, word_loc}
use Rattle.meaning.specs.Types.{DataType}
use Rattle.meaning.specs.Terms.{Term}
use Rattle.meaning.specs.Typing.{type_of}
use Rattle.meaning.specs.Expressions.{Expression, Acceptor}
use Rattle.meaning.specs.Translation.{write_term}
use Rattle.meaning.specs.Rows.{command_rows}
use Rattle.meaning.proofs.Laws.UseRows.{use_rows, expression_of, regions_opened}
use Rattle.syntax.specs.Ranges.{as_natural}
use Rattle.syntax.specs.Standing.{term_kind, term_number, first_operand, second_operand}
use Rattle.syntax.proofs.Standing.{its_kind, its_number, rows_of_one, rows_of_two}
use Rattle.type_table.specs.Table.{type_at}
use Rattle.emission.specs.Table.{Table, table, put_rows}
use Rattle.emission.specs.References.{class_of, expression_at, acceptor_at}
use Rattle.emission.specs.Laws.Table.{put_append}
use Rattle.emission.specs.Laws.Growth.{grown_more}
use Rattle.row_translation.specs.WriteAndUse.{Stands, Used, Written}
use Rattle.words.specs.Groups.{is_leaf, is_map, has_one_operand}
use Rattle.clauses.specs.Clauses.{node_kind, number_over, region_rows, OverOne, OverTwo, RegionOpened, RegionUsed, AfterUse}
use Rattle.emission.specs.Laws.Readings.{read_by, pushed_reads, pushed_writes, reads_on}
use Rattle.row_translation.specs.Laws.Kinds.{OneOperand, one_operand, TwoOperands, two_operands, MapTerm, map_term}
use Rattle.row_translation.specs.Laws.Operands.{type_here, type_first}
use Rattle.clauses.specs.declared.State.{State}
use Rattle.clauses.specs.declared.Translated.{Translated}

-- no rows put behind rows
no_rows : (o : Table) → o ≡ put_rows [] o
unfolding put_rows
no_rows o = refl

-- and the end named otherwise
end_as : (K : List ℕ) (M : List ℤ) (i j : ℕ) → i ≡ j → table K M i ≡ table K M j
end_as K M i j e = ap (table K M) e

module _ (Y : List ℕ) (N : List ℤ) (I Γ : List DataType) (Δ : List Expression) (s : State) (T : List ℕ) where
  -- ---- one operand

  module _ (e : Term) (U W : List ℕ) (o o₁ : Table) (k n : ℕ) (one r : Translated) where
    over_one : k ≡ term_kind e → n ≡ number_over k (term_number e) (type_of I Γ (first_operand e)) → n < 65536 → one.len < 1024 → OneOperand I e
        → Used Y N I Γ Δ (first_operand e) s T U o o₁ one → OverOne U W (node_kind k) n one r
        → Used Y N I Γ Δ e s T W o o₁ r
    over_one ek en hn hl q A B =
        let E : Expression = expression_at Y N U one.value in
        let F : Expression = expression_at Y N U 0 in
        let z : 0 < one.len = omega (arith, A.below) in
        let v : n ≡ number_over (term_kind e) (term_number e) (type_of I Γ (first_operand e)) = en ∙ ap (λ (i : ℕ). number_over i (term_number e) (type_of I Γ (first_operand e))) ek in
        record {
          passed = omega (arith, B.rows, A.passed, rows_of_one e q.count);
          rows = A.rows ∙ ap (λ (l : List Row). put_rows l o) (sym (q.rows Γ Δ s.counters s.regions));
          value =
              ap (expression_at Y N W) B.value
              ∙ pushed_reads U W one.len (node_kind k) 0 n one.value 0 B.node hl (omega arith) hn A.below z Y N
              ∙ ap (λ (i : ℕ). read_by (class_of (node_kind i)) Y N (node_kind i) 0 n E F) ek
              ∙ ap₂ (λ (i : ℕ) (x : Expression). read_by (class_of (node_kind (term_kind e))) Y N (node_kind (term_kind e)) 0 i x F) v A.value
              ∙ q.reads Y N Γ Δ s.regions F;
          below = omega (arith, B.value, B.len);
          regions = B.regions ∙ A.regions ∙ ap (λ (i : ℕ). s.regions + i) (sym q.opened);
          grown = grown_more T U W s.len one.len A.more A.grown B.node.grown;
          more = omega (arith, A.more, B.len);
          few = omega (arith, A.few, B.len, rows_of_one e q.count);
        }

    -- p is the place of the operand's type, m the number of the term's row
    pub used_over_one : (ks : List ℕ) (ns : List ℤ) (C : List ℕ) (m p : ℕ) → Stands ks ns C Y N T s I Γ Δ e
        → k ≡ get_or ks 0 0 → m ≡ as_natural (get_or ns 0 (pos 0)) → p ≡ get_or C 1 0 → is_leaf k ≡ false → has_one_operand k ≡ true
        → n ≡ number_over k m (type_at Y p) → n < 65536 → one.len < 1024
        → Used Y N I Γ Δ (first_operand e) s T U o o₁ one → OverOne U W (node_kind k) n one r
        → Used Y N I Γ Δ e s T W o o₁ r
    used_over_one ks ns C m p S ek em ep hk hb en hn hl A B =
        let f : k ≡ term_kind e = ek ∙ its_kind ks ns (length I) (length Γ) e S.rows in
        let q : OneOperand I e = one_operand I e (ap has_one_operand (sym f) ∙ hb) in
        let g : m ≡ term_number e = em ∙ its_number ks ns (length I) (length Γ) e S.rows in
        let t : type_at Y p ≡ type_of I Γ (first_operand e) = ap (type_at Y) ep ∙ (type_first ks ns C Y N T s I Γ Δ e S (omega (arith, q.count))).1 in
        over_one f (en ∙ ap₂ (λ (i : ℕ) (y : DataType). number_over k i y) g t) hn hl q A B

  -- ---- two operands

  module _ (e : Term) (U W X : List ℕ) (o o₁ o₂ : Table) (k : ℕ) (one : Translated) (s' : State) (two r : Translated) where
    over_two_holds : k ≡ term_kind e → two.len < 1024 → TwoOperands I e
        → Used Y N I Γ Δ (first_operand e) s T U o o₁ one → AfterUse s one s'
        → Used Y N I Γ Δ (second_operand e) s' U W o₁ o₂ two
        → OverTwo W X k one two r → Used Y N I Γ Δ e s T X o o₂ r
    over_two_holds ek hl q A G B H =
        let c : ℕ = s.counters in
        let a : Term = first_operand e in
        let b : Term = second_operand e in
        let g : s'.regions ≡ s.regions + regions_opened a = G.regions ∙ A.regions in
        let E : Expression = expression_at Y N W one.value in
        let F : Expression = expression_at Y N W two.value in
        let hv : one.value < two.len = omega (arith, A.below, G.len, B.more) in
        let eE : E ≡ expression_of I a Γ Δ s.regions = reads_on U W s'.len one.value (omega (arith, A.below, G.len)) B.grown Y N ∙ A.value in
        let eF : F ≡ expression_of I b Γ Δ (s.regions + regions_opened a) = B.value ∙ ap (expression_of I b Γ Δ) g in
        let x : List Row = use_rows I a Γ Δ c s.regions in
        let y : List Row = use_rows I b Γ Δ c (s.regions + regions_opened a) in
        record {
          passed = omega (arith, H.rows, A.passed, B.passed, rows_of_two e q.count);
          rows =
              B.rows
              ∙ ap₂ (λ (i j : ℕ). put_rows (use_rows I b Γ Δ i j) o₁) G.counters g
              ∙ ap (put_rows y) A.rows
              ∙ sym (put_append x y o)
              ∙ ap (λ (l : List Row). put_rows l o) (sym (q.rows Γ Δ c s.regions));
          value =
              ap (expression_at Y N X) H.value
              ∙ pushed_reads W X two.len k 0 0 one.value two.value H.node hl (omega arith) (omega arith) hv B.below Y N
              ∙ ap (λ (i : ℕ). read_by (class_of i) Y N i 0 0 E F) ek
              ∙ ap₂ (λ (u w : Expression). read_by (class_of (term_kind e)) Y N (term_kind e) 0 0 u w) eE eF
              ∙ q.reads Y N Γ Δ s.regions;
          below = omega (arith, H.value, H.len);
          regions = omega (arith, H.regions, B.regions, g, q.opened);
          grown =
              grown_more T W X s.len two.len (omega (arith, A.more, G.len, B.more))
              (grown_more T U W s.len s'.len (omega (arith, A.more, G.len)) A.grown B.grown) H.node.grown;
          more = omega (arith, A.more, G.len, B.more, H.len);
          few = omega (arith, A.few, G.len, B.few, H.len, rows_of_two e q.count);
        }

    pub used_over_two : (ks : List ℕ) (ns : List ℤ) (C : List ℕ) → Stands ks ns C Y N T s I Γ Δ e
        → k ≡ get_or ks 0 0 → is_leaf k ≡ false → is_map k ≡ false → (k ≡ word_redseq → ⊥) → has_one_operand k ≡ false → two.len < 1024
        → Used Y N I Γ Δ (first_operand e) s T U o o₁ one → AfterUse s one s'
        → Used Y N I Γ Δ (second_operand e) s' U W o₁ o₂ two
        → OverTwo W X k one two r → Used Y N I Γ Δ e s T X o o₂ r
    used_over_two ks ns C S ek hk hm hr hb hl A G B H =
        let f : k ≡ term_kind e = ek ∙ its_kind ks ns (length I) (length Γ) e S.rows in
        over_two_holds f hl (two_operands I e (ap is_leaf (sym f) ∙ hk) (ap is_map (sym f) ∙ hm) (λ x. hr (f ∙ x)) (ap has_one_operand (sym f) ∙ hb)) A G B H

  -- ---- a map: a region is opened, and the map written there

  module _ (e : Term) (U W : List ℕ) (o o₁ o₂ : Table) (k p : ℕ) (s' : State) (w r : Translated) where
    pub used_map : (ks : List ℕ) (ns : List ℤ) (C : List ℕ) → Stands ks ns C Y N T s I Γ Δ e
        → k ≡ get_or ks 0 0 → p ≡ get_or C 0 0 → is_map k ≡ true → length Y ≤ 65536 → 1 ≤ s.len → s.len < 1024 → s.regions < 65535
        → RegionOpened T U p s s' → o₁ ≡ region_rows (type_at Y p) o
        → Written Y N I Γ Δ e (acceptor_at Y U s.len) s' U W o₁ o₂ w
        → RegionUsed s w r → Used Y N I Γ Δ e s T W o o₂ r
    unfolding put_rows
    used_map ks ns C S ek ep hm hy h1 hl hr R er A B =
        let f : k ≡ term_kind e = ek ∙ its_kind ks ns (length I) (length Γ) e S.rows in
        let q : MapTerm I e = map_term I e (ap is_map (sym f) ∙ hm) in
        let t : DataType = type_of I Γ e in
        let x = type_here ks ns C Y N T s I Γ Δ e S in
        let et : type_at Y p ≡ t = ap (type_at Y) ep ∙ x.1 in
        let hp : p < 65536 = omega (arith, ep, x.0) in
        let P : acceptor_at Y U s.len ≡ Acceptor.region s.regions t
        = pushed_writes T U s.len word_loc p s.regions 0 0 R.node hl hp (omega arith) (omega arith) (omega arith) Y ∙ ap (Acceptor.region s.regions) et in
        let E : expression_at Y N U s.len ≡ Expression.region s.regions t
        = pushed_reads T U s.len word_loc p s.regions 0 0 R.node hl hp (omega arith) (omega arith) (omega arith) Y N ∙ ap (Expression.region s.regions) et in
        let c : ℕ = s.counters in
        let g : s'.regions ≡ suc s.regions = R.regions ∙ add-one s.regions in
        record {
          passed = B.rows ∙ A.passed;
          rows =
              A.rows
              ∙ ap₂ (λ (i j : ℕ). put_rows (command_rows (write_term I e Γ Δ i j (acceptor_at Y U s.len))) o₁) R.counters g
              ∙ ap (λ (Q : Acceptor). put_rows (command_rows (write_term I e Γ Δ c (suc s.regions) Q)) o₁) P
              ∙ ap (put_rows (command_rows (write_term I e Γ Δ c (suc s.regions) (Acceptor.region s.regions t)))) (er ∙ ap (λ (y : DataType). region_rows y o) et)
              ∙ ap (λ (l : List Row). put_rows l o) (sym (q.rows Γ Δ c s.regions));
          value =
              ap (expression_at Y N W) B.value
              ∙ reads_on U W s'.len s.len (omega (arith, R.len)) A.grown Y N
              ∙ E
              ∙ sym (q.reads Γ Δ s.regions);
          below = omega (arith, B.value, B.len, A.more, R.len);
          regions = B.regions ∙ ap (λ (i : ℕ). s.regions + i) (sym q.opened);
          grown = grown_more T U W s.len s'.len (omega (arith, R.len)) R.node.grown A.grown;
          more = omega (arith, B.len, A.more, R.len);
          few = omega (arith, B.len, A.few, R.len, q.node);
        }
