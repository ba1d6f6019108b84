-- A write of a term from the uses and writes of its operands and the clauses around them: one law for each way out. The place is node
-- `target` of T; o is the table of rows at the beginning. Assumes nothing.
use Rattle.std.specs.Prelude.{◌≡◌, Bool, true, false, cond, ℤ, length, get_or}
use Rattle.std.proofs.Math.Path.{refl, ap, ap₂, sym}
use Rattle.std.proofs.Common.{◌∙◌, arith}
use mathlib.Core.List.{List, ◌∷◌}
use Prim.Native.Nat.{ℕ, suc, ◌+◌, ◌≤◌, ◌<◌}
use Rattle.std.proofs.Math.Numerals.{add-one}
use Rattle.std.proofs.Math.IntN.{pos}
use Rattle.words.specs.Kinds.{Row, word_seq, word_ctr}
use Rattle.meaning.specs.Types.{DataType, element}
use Rattle.meaning.specs.Terms.{Term}
use Rattle.meaning.specs.Typing.{type_of}
use Rattle.meaning.specs.Loops.{Offset, Command}
use Rattle.meaning.specs.Expressions.{Expression, Acceptor}
use Rattle.meaning.specs.Translation.{assign, write_term}
use Rattle.meaning.specs.Rows.{command_rows}
use Rattle.meaning.proofs.Laws.UseRows.{use_rows, expression_of, regions_opened, write_rows_assigned}
use Rattle.syntax.specs.Ranges.{as_natural}
use Rattle.syntax.specs.Standing.{term_kind, term_number, first_operand, second_operand}
use Rattle.syntax.proofs.Standing.{its_kind, its_number, rows_of_one, rows_of_two}
use Rattle.syntax.proofs.Front.{part}
use Rattle.type_table.specs.Table.{type_at}
use Rattle.emission.specs.Table.{Table, put_row, put_rows}
use Rattle.emission.specs.References.{class_of, expression_at, acceptor_at}
use Rattle.emission.specs.Laws.Table.{put_append}
use Rattle.emission.specs.Growth.{Grown}
use Rattle.emission.specs.Laws.Growth.{grown_more}
use Rattle.emission.specs.Laws.Assign.{both_grown, step_read, step_written}
use Rattle.row_translation.specs.WriteAndUse.{Stands, Used, Written}
use Rattle.words.specs.Groups.{one_of, is_leaf, is_map}
use Rattle.clauses.specs.Clauses.{is_paired, is_regrouped, first_part, second_part, regrouped_by, number_over, map_rows, region_node, IntoPart, Later, MapEntered}
use Rattle.emission.specs.Laws.Readings.{write_by, pushed_writes, writes_on}
use Rattle.row_translation.specs.Laws.Kinds.{MapTerm, map_term, PairedTerm, paired_term, RegroupedTerm, regrouped_term, assigned_term}
use Rattle.row_translation.specs.Laws.Variables.{variables_one}
use Rattle.row_translation.specs.Laws.Operands.{type_here, type_first, stands_body}
use Rattle.clauses.specs.declared.State.{State}
use Rattle.clauses.specs.declared.Translated.{Translated}

no_map_holds : (k : ℕ) → is_map k ≡ false → region_node k ≡ 0
no_map_holds k h = ap (λ (b : Bool). cond b 1 0) h

some_map : (k : ℕ) → is_map k ≡ true → region_node k ≡ 1
some_map k h = ap (λ (b : Bool). cond b 1 0) h

module _ (Y : List ℕ) (N : List ℤ) (I Γ : List DataType) (Δ : List Expression) (s : State) (T : List ℕ) (target : ℕ) (ht : target < s.len)
    (e : Term) (ks : List ℕ) (ns : List ℤ) (C : List ℕ) (S : Stands ks ns C Y N T s I Γ Δ e) (k : ℕ) (ek : k ≡ get_or ks 0 0) (o : Table) where
  kind : k ≡ term_kind e
  kind = ek ∙ its_kind ks ns (length I) (length Γ) e S.rows

  -- ---- a use, then an assignment by type; p is the place of the type

  module _ (U W : List ℕ) (o₁ o₂ : Table) (p : ℕ) (used r : Translated) where
    pub written_assigned : p ≡ get_or C 0 0 → is_map k ≡ false → is_paired k ≡ false → is_regrouped k ≡ false
        → Used Y N I Γ Δ e s T U o o₁ used
        → o₂ ≡ put_rows (command_rows (assign (type_at Y p) (expression_at Y N U used.value) (acceptor_at Y U target) s.counters used.regions)) o₁
        → Grown U W used.len → r.rows ≡ used.rows → r.len ≡ used.len
        → Written Y N I Γ Δ e (acceptor_at Y T target) s T W o o₂ r
    written_assigned ep hm hp hg A q g er el =
        let P : Acceptor = acceptor_at Y T target in
        let c : ℕ = s.counters in
        let t : type_at Y p ≡ type_of I Γ e = ap (type_at Y) ep ∙ (type_here ks ns C Y N T s I Γ Δ e S).1 in
        let x : List Row = use_rows I e Γ Δ c s.regions in
        let y : List Row = command_rows (assign (type_of I Γ e) (expression_of I e Γ Δ s.regions) P c (s.regions + regions_opened e)) in
        record {
          passed = er ∙ A.passed;
          rows =
              q
              ∙ ap (λ (u : DataType). put_rows (command_rows (assign u (expression_at Y N U used.value) (acceptor_at Y U target) c used.regions)) o₁) t
              ∙ ap (λ (E : Expression). put_rows (command_rows (assign (type_of I Γ e) E (acceptor_at Y U target) c used.regions)) o₁) A.value
              ∙ ap₂ (λ (Q : Acceptor) (i : ℕ). put_rows (command_rows (assign (type_of I Γ e) (expression_of I e Γ Δ s.regions) Q c i)) o₁)
              (writes_on T U s.len target ht A.grown Y) A.regions
              ∙ ap (put_rows y) A.rows
              ∙ sym (put_append x y o)
              ∙ ap (λ (l : List Row). put_rows l o)
              (sym (write_rows_assigned I e (assigned_term I e (ap is_map (sym kind) ∙ hm) (ap is_paired (sym kind) ∙ hp) (ap is_regrouped (sym kind) ∙ hg)) Γ Δ c s.regions P));
          grown = grown_more T U W s.len used.len A.more A.grown g;
          more = omega (arith, A.more, el);
          few = omega (arith, A.few, el, no_map_holds (term_kind e) (ap is_map (sym kind) ∙ hm));
        }

  -- ---- a map: its array is used, then its body written in each round

  -- E is what is used of the array
  abbrev pub element_of : Expression → Expression
  element_of E = Expression.index E (Offset.counter s.counters)

  module _ (U W : List ℕ) (o₁ : Table) (used : Translated) (s' : State)
      (A : Used Y N I Γ Δ (first_operand e) s T U o o₁ used) (H : MapEntered U W target s used s')
      (hl : used.len + 2 ≤ 1024) (hc : s.counters < 65535) (hm : is_map k ≡ true) where
    map_here : MapTerm I e
    map_here = map_term I e (ap is_map (sym kind) ∙ hm)

    its_element : expression_at Y N W used.len ≡ element_of (expression_of I (first_operand e) Γ Δ s.regions)
    unfolding one_of
    its_element =
        step_read U W used.len word_ctr s.counters used.value target H.nodes (omega arith) (omega arith) A.below (omega (arith, A.more)) Y N refl
        ∙ ap element_of A.value

    its_place : acceptor_at Y W (used.len + 1) ≡ Acceptor.index (acceptor_at Y T target) (Offset.counter s.counters)
    unfolding one_of
    its_place =
        step_written U W used.len word_ctr s.counters used.value target H.nodes (omega arith) (omega arith) A.below (omega (arith, A.more)) Y refl
        ∙ ap (λ (Q : Acceptor). Acceptor.index Q (Offset.counter s.counters)) (writes_on T U s.len target ht A.grown Y)

    map_grown : Grown T W s.len
    map_grown = grown_more T U W s.len used.len A.more A.grown (both_grown U W used.len word_ctr s.counters used.value target H.nodes)

    -- what its body is given
    pub map_body : s.count < 16 → Stands (part (1 + used.rows) ks) (part (1 + used.rows) ns) (part (1 + used.rows) C) Y N W s' I
        (element (type_of I Γ (first_operand e)) ∷ Γ) (element_of (expression_of I (first_operand e) Γ Δ s.regions) ∷ Δ) (second_operand e)
    map_body h =
        stands_body ks ns C Y N T s I Γ Δ e S map_here.count used.rows A.passed map_here.opens (element_of (expression_of I (first_operand e) Γ Δ s.regions)) W s'
        (variables_one Y N T W s s' Δ S.variables map_grown (omega (arith, A.more, H.len)) used.len (element_of (expression_of I (first_operand e) Γ Δ s.regions)) h
        (omega (arith, H.len)) its_element H.variables H.count)

    pub written_map : (X : List ℕ) (o₂ o₃ : Table) (p : ℕ) (w r : Translated) → p ≡ get_or C 0 0
        → o₂ ≡ map_rows k (type_at Y p) o₁
        → Written Y N I (element (type_of I Γ (first_operand e)) ∷ Γ) (element_of (expression_of I (first_operand e) Γ Δ s.regions) ∷ Δ) (second_operand e)
        (acceptor_at Y W (used.len + 1)) s' W X o₂ o₃ w
        → Later (1 + used.rows) w r
        → Written Y N I Γ Δ e (acceptor_at Y T target) s T X o o₃ r
    unfolding put_rows
    written_map X o₂ o₃ p w r ep q B L =
        let a : Term = first_operand e in
        let b : Term = second_operand e in
        let c : ℕ = s.counters in
        let P : Acceptor = acceptor_at Y T target in
        let Γ' : List DataType = element (type_of I Γ a) ∷ Γ in
        let Δ' : List Expression = element_of (expression_of I a Γ Δ s.regions) ∷ Δ in
        let t : type_at Y p ≡ type_of I Γ e = ap (type_at Y) ep ∙ (type_here ks ns C Y N T s I Γ Δ e S).1 in
        let ec : s'.counters ≡ suc c = H.counters ∙ add-one c in
        let eg : s'.regions ≡ s.regions + regions_opened a = H.regions ∙ A.regions in
        let x : List Row = use_rows I a Γ Δ c s.regions in
        let y : List Row = command_rows (write_term I b Γ' Δ' (suc c) (s.regions + regions_opened a) (Acceptor.index P (Offset.counter c))) in
        let z : o₂ ≡ map_rows (term_kind e) (type_of I Γ e) (put_rows x o)
        = q ∙ ap₂ (λ (i : ℕ) (u : DataType). map_rows i u o₁) kind t ∙ ap (map_rows (term_kind e) (type_of I Γ e)) A.rows in
        record {
          passed = omega (arith, L.rows, A.passed, B.passed, rows_of_two e map_here.count);
          rows =
              B.rows
              ∙ ap₂ (λ (i j : ℕ). put_rows (command_rows (write_term I b Γ' Δ' i j (acceptor_at Y W (used.len + 1)))) o₂) ec eg
              ∙ ap₂ (λ (Q : Acceptor) (u : Table). put_rows (command_rows (write_term I b Γ' Δ' (suc c) (s.regions + regions_opened a) Q)) u) its_place z
              ∙ sym (put_append x _ o)
              ∙ ap (λ (l : List Row). put_rows l o) (sym (map_here.writes Γ Δ c s.regions P));
          grown = grown_more T W X s.len s'.len (omega (arith, A.more, H.len)) map_grown B.grown;
          more = omega (arith, A.more, H.len, B.more, L.len);
          few = omega (arith, A.few, H.len, B.few, L.len, rows_of_two e map_here.count, map_here.node);
        }

  -- ---- a `zip` or a `pair`: the operands are written one after the other, each into its part

  module _ (U W X Z : List ℕ) (o₁ o₂ o₃ : Table) (s₁ : State) (one : Translated) (s₂ : State) (two r : Translated) where
    pub written_paired : is_paired k ≡ true → one.len < 1024
        → IntoPart T U (first_part k) 0 target s.len s s₁ → o₁ ≡ put_row o (word_seq, pos 0)
        → Written Y N I Γ Δ (first_operand e) (acceptor_at Y U s.len) s₁ U W o₁ o₂ one
        → IntoPart W X (second_part k) 0 target one.len s s₂
        → Written Y N I Γ Δ (second_operand e) (acceptor_at Y X one.len) s₂ X Z o₂ o₃ two
        → Later (1 + one.rows) two r
        → Written Y N I Γ Δ e (acceptor_at Y T target) s T Z o o₃ r
    unfolding put_rows
    written_paired hp hl F q A G B L =
        let a : Term = first_operand e in
        let b : Term = second_operand e in
        let c : ℕ = s.counters in
        let g : ℕ = s.regions in
        let P : Acceptor = acceptor_at Y T target in
        let f : ℕ = term_kind e in
        let d : PairedTerm I e = paired_term I e (ap is_paired (sym kind) ∙ hp) in
        let gT : Grown T W s.len = grown_more T U W s.len s₁.len (omega (arith, F.len)) F.node.grown A.grown in
        let Q : Acceptor = write_by (class_of (first_part f)) Y (first_part f) 0 0 P in
        let R : Acceptor = write_by (class_of (second_part f)) Y (second_part f) 0 0 P in
        let eQ : acceptor_at Y U s.len ≡ Q
        = pushed_writes T U s.len (first_part k) 0 0 target 0 F.node (omega (arith, A.more, F.len)) (omega arith) (omega arith) ht (omega arith) Y
        ∙ ap (λ (i : ℕ). write_by (class_of (first_part i)) Y (first_part i) 0 0 P) kind in
        let eR : acceptor_at Y X one.len ≡ R
        = pushed_writes W X one.len (second_part k) 0 0 target 0 G.node hl (omega arith) (omega arith) (omega (arith, A.more, F.len)) (omega (arith, A.more, F.len)) Y
        ∙ ap₂ (λ (i : ℕ) (u : Acceptor). write_by (class_of (second_part i)) Y (second_part i) 0 0 u) kind (writes_on T W s.len target ht gT Y) in
        let x : List Row = command_rows (write_term I a Γ Δ c g Q) in
        let y : List Row = command_rows (write_term I b Γ Δ c g R) in
        let z₁ : o₂ ≡ put_rows x (put_row o (word_seq, pos 0))
        = A.rows
        ∙ ap₂ (λ (i j : ℕ). put_rows (command_rows (write_term I a Γ Δ i j (acceptor_at Y U s.len))) o₁) F.counters F.regions
        ∙ ap₂ (λ (u : Acceptor) (v : Table). put_rows (command_rows (write_term I a Γ Δ c g u)) v) eQ q in
        record {
          passed = omega (arith, L.rows, A.passed, B.passed, rows_of_two e d.count);
          rows =
              B.rows
              ∙ ap₂ (λ (i j : ℕ). put_rows (command_rows (write_term I b Γ Δ i j (acceptor_at Y X one.len))) o₂) G.counters G.regions
              ∙ ap₂ (λ (u : Acceptor) (v : Table). put_rows (command_rows (write_term I b Γ Δ c g u)) v) eR z₁
              ∙ sym (put_append x y (put_row o (word_seq, pos 0)))
              ∙ ap (λ (l : List Row). put_rows l o) (sym (d.writes Y Γ Δ c g P));
          grown =
              grown_more T X Z s.len s₂.len (omega (arith, F.len, A.more, G.len))
              (grown_more T W X s.len one.len (omega (arith, F.len, A.more)) gT G.node.grown) B.grown;
          more = omega (arith, F.len, A.more, G.len, B.more, L.len);
          few = omega (arith, F.len, A.few, G.len, B.few, L.len, rows_of_two e d.count, d.no_map);
        }

  -- ---- a `split` or a `join`, [18.12] an `asvec` or an `asscal`: the operand is written into the place, regrouped; m is the number of its row, p the place of its type

  module _ (U W : List ℕ) (o₁ : Table) (m p n : ℕ) (s₁ : State) (w r : Translated) where
    pub written_regrouped : is_regrouped k ≡ true → m ≡ as_natural (get_or ns 0 (pos 0)) → p ≡ get_or C 1 0 → is_leaf k ≡ false
        → n ≡ number_over k m (type_at Y p) → n < 65536 → s.len < 1024
        → IntoPart T U (regrouped_by k) n target s.len s s₁
        → Written Y N I Γ Δ (first_operand e) (acceptor_at Y U s.len) s₁ U W o o₁ w
        → Later 1 w r
        → Written Y N I Γ Δ e (acceptor_at Y T target) s T W o o₁ r
    written_regrouped hr em ep hk en hn hl F A L =
        let a : Term = first_operand e in
        let c : ℕ = s.counters in
        let g : ℕ = s.regions in
        let P : Acceptor = acceptor_at Y T target in
        let f : ℕ = term_kind e in
        let d : RegroupedTerm I e = regrouped_term I e (ap is_regrouped (sym kind) ∙ hr) in
        let j : m ≡ term_number e = em ∙ its_number ks ns (length I) (length Γ) e S.rows in
        let t : type_at Y p ≡ type_of I Γ a = ap (type_at Y) ep ∙ (type_first ks ns C Y N T s I Γ Δ e S (omega (arith, d.count))).1 in
        let v : n ≡ number_over f (term_number e) (type_of I Γ a) = en ∙ ap₂ (λ (i : ℕ) (y : DataType). number_over k i y) j t ∙ ap (λ (i : ℕ). number_over i (term_number e) (type_of I Γ a)) kind in
        let Q : Acceptor = write_by (class_of (regrouped_by f)) Y (regrouped_by f) 0 (number_over f (term_number e) (type_of I Γ a)) P in
        let eQ : acceptor_at Y U s.len ≡ Q
        = pushed_writes T U s.len (regrouped_by k) 0 n target 0 F.node hl (omega arith) hn ht (omega arith) Y
        ∙ ap₂ (λ (i z : ℕ). write_by (class_of (regrouped_by i)) Y (regrouped_by i) 0 z P) kind v in
        record {
          passed = omega (arith, L.rows, A.passed, rows_of_one e d.count);
          rows =
              A.rows
              ∙ ap₂ (λ (i z : ℕ). put_rows (command_rows (write_term I a Γ Δ i z (acceptor_at Y U s.len))) o) F.counters F.regions
              ∙ ap (λ (u : Acceptor). put_rows (command_rows (write_term I a Γ Δ c g u)) o) eQ
              ∙ ap (λ (u : Command). put_rows (command_rows u) o) (sym (d.writes Y Γ Δ c g P));
          grown = grown_more T U W s.len s₁.len (omega (arith, F.len)) F.node.grown A.grown;
          more = omega (arith, F.len, A.more, L.len);
          few = omega (arith, F.len, A.few, L.len, rows_of_one e d.count, d.no_map);
        }
