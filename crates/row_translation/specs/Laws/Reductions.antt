-- A use of a reduction from the uses of its array and its start, the write of its body and the clauses around them. The place of
-- its type is p, a rows are those of its start. Assumes nothing.
use Rattle.std.specs.Prelude.{◌≡◌, refl, Bool, true, false, cond, List, ◌∷◌, ◌++◌, ℕ, suc, ◌+◌, ◌≤◌, ◌<◌, ℤ, pos, length, get_or}
use Rattle.std.proofs.Common.{ap, ap₂, sym, ◌∙◌, arith, add-one}
use Rattle.words.specs.Kinds.{Row, word_redseq, word_seq, word_for, word_new}
use Rattle.meaning.specs.Types.{DataType, is_number, cells, array_length, element}
use Rattle.meaning.specs.Terms.{Term}
use Rattle.meaning.specs.Typing.{type_of}
use Rattle.meaning.specs.Loops.{Offset}
use Rattle.meaning.specs.Expressions.{Expression, Acceptor}
use Rattle.meaning.specs.Translation.{Write, assign, body_into, round_by_next, write_term}
use Rattle.meaning.specs.Rows.{term_rows, command_rows}
use Rattle.meaning.proofs.Laws.UseRows.{use_rows, expression_of, regions_opened, reduce_rows}
use Rattle.syntax.specs.Standing.{first_operand, second_operand, third_operand}
use Rattle.syntax.proofs.Standing.{its_kind, rows_of_three}
use Rattle.syntax.proofs.Front.{part}
use Rattle.type_table.specs.Table.{type_at}
use Rattle.emission.specs.Table.{Table, put_rows}
use Rattle.emission.specs.References.{expression_at, acceptor_at}
use Rattle.emission.specs.Laws.Table.{put_append}
use Rattle.emission.specs.Growth.{Grown}
use Rattle.emission.specs.Laws.Growth.{grown_more}
use Rattle.row_translation.specs.WriteAndUse.{Stands, Used, Written}
use Rattle.clauses.specs.Clauses.{region_rows, body_region, entered_rows, left_rows, AfterUse, ReductionPushed, ReductionEntered, ReductionLeft}
use Rattle.emission.specs.Laws.Readings.{reads_on, writes_on}
use Rattle.clauses.specs.Laws.{body_region_few, reduction_grown, total_reads, total_writes, element_reads, target_reads, target_writes}
use Rattle.row_translation.specs.Laws.Kinds.{ReduceTerm, reduce_term}
use Rattle.row_translation.specs.Laws.Variables.{variables_two}
use Rattle.row_translation.specs.Laws.Operands.{type_here, type_array, stands_round}
use Rattle.clauses.specs.declared.State.{State}
use Rattle.clauses.specs.declared.Translated.{Translated}

-- ---- the rows: as far as the body, those of the body, and behind it; `direct` says whether the total is a number

-- the rows B of the body and L behind it, in a round
abbrev round_rows : Bool → DataType → List Row → List Row → List Row
round_rows direct t B L = cond direct B ((word_new, pos (cells t)) ∷ (word_seq, pos 0) ∷ (B ++ L))

put_round : (direct : Bool) (t : DataType) (B L : List Row) (o : Table)
    → cond direct (put_rows B (cond direct o (region_rows t o))) (put_rows L (put_rows B (cond direct o (region_rows t o))))
    ≡ put_rows (round_rows direct t B L) o
unfolding put_rows
put_round true t B L o = refl
put_round false t B L o = sym (put_append B L (region_rows t o))

around_body : (t : DataType) (n : ℕ) (Z E : Expression) (c r : ℕ) (B : List Row) (o : Table)
    → left_rows t E (Acceptor.region r t) c r (put_rows B (entered_rows t n Z c r o))
    ≡ put_rows
    ((word_new, pos (cells t))
    ∷ (word_seq, pos 0)
    ∷ (command_rows (assign t Z (Acceptor.region r t) c (r + 1))
    ++ ((word_seq, pos 0)
    ∷ (word_for, pos n)
    ∷ round_rows (is_number t) t B (command_rows (assign t E (Acceptor.region r t) (c + 1) (r + 2)))))) o
unfolding put_rows
around_body t n Z E c r B o =
    put_round (is_number t) t B (command_rows (assign t E (Acceptor.region r t) (c + 1) (r + 2))) _
    ∙ sym (put_append (command_rows (assign t Z (Acceptor.region r t) c (r + 1))) _ (region_rows t o))

-- they are a round's
round_rows_holds : (direct : Bool) (e t : DataType) (writeB : Write) (Γ : List DataType) (Δ : List Expression) (c r : ℕ) (A : Expression)
    → (g : ℕ) → g ≡ cond direct r (r + 1)
    → round_rows direct t
    (command_rows (writeB (t ∷ e ∷ Γ) (Expression.region r t ∷ Expression.index A (Offset.counter c) ∷ Δ) (c + 1) (g + 1) (Acceptor.region g t)))
    (command_rows (assign t (Expression.region g t) (Acceptor.region r t) (c + 1) (r + 2)))
    ≡ command_rows (cond direct (body_into e t writeB Γ Δ c r A r) (round_by_next e t writeB Γ Δ c r A))
unfolding command_rows
round_rows_holds true e t writeB Γ Δ c r A g eg = rw (eg, add-one r, add-one c) refl
round_rows_holds false e t writeB Γ Δ c r A g eg =
    let r2 : r + 2 ≡ suc (suc r) = omega arith in
    let g1 : g ≡ suc r = eg ∙ add-one r in
    rw (g1, r2, add-one c, add-one (suc r)) refl

-- the rows of a reduction, as they are put
reduction_rows : (I : List DataType) (z a b : Term) (Γ : List DataType) (Δ : List Expression) (c r : ℕ) (A Z : Expression) (o : Table)
    → (t : DataType) → t ≡ type_of I Γ z → (n : ℕ) → n ≡ array_length (type_of I Γ a)
    → left_rows t (Expression.region (body_region t r) t) (Acceptor.region r t) c r
    (put_rows
    (command_rows
    (write_term I b (t ∷ element (type_of I Γ a) ∷ Γ) (Expression.region r t ∷ Expression.index A (Offset.counter c) ∷ Δ) (c + 1) (body_region t r + 1)
    (Acceptor.region (body_region t r) t)))
    (entered_rows t n Z c r o))
    ≡ put_rows (reduce_rows I z a b Γ Δ c r A Z) o
unfolding reduce_rows command_rows
reduction_rows I z a b Γ Δ c r A Z o t et n en =
    around_body t n Z _ c r _ o
    ∙ ap
    (λ (l : List Row).
    put_rows
    ((word_new, pos (cells t))
    ∷ (word_seq, pos 0)
    ∷ (command_rows (assign t Z (Acceptor.region r t) c (r + 1)) ++ ((word_seq, pos 0) ∷ (word_for, pos n) ∷ l))) o)
    (round_rows_holds (is_number t) (element (type_of I Γ a)) t (write_term I b) Γ Δ c r A (body_region t r) refl)
    ∙ rw (et, en, add-one r) refl

module _ (Y : List ℕ) (N : List ℤ) (I Γ : List DataType) (Δ : List Expression) (s : State) (T : List ℕ) (e : Term) (ks : List ℕ) (ns : List ℤ) (C : List ℕ)
    (S : Stands ks ns C Y N T s I Γ Δ e) (k p : ℕ) (ek : k ≡ get_or ks 0 0) (hk : k ≡ word_redseq) (ep : p ≡ get_or C 0 0) (hy : length Y ≤ 65536)
    (U W X : List ℕ) (o o₁ o₂ : Table) (array : Translated) (s₁ : State) (start : Translated) (s₂ : State)
    (A : Used Y N I Γ Δ (second_operand e) s T U o o₁ array) (G : AfterUse s array s₁)
    (B : Used Y N I Γ Δ (first_operand e) s₁ U W o₁ o₂ start)
    (H : ReductionEntered W X p array.value (body_region (type_at Y p) start.regions) s start s₂) (hl : start.len + 3 ≤ 1024) (hr : start.regions < 65535)
    (hc : s.counters < 65536) where
  -- the region that its body is written into
  abbrev region : ℕ
  region = body_region (type_at Y p) start.regions

  reduction : ReduceTerm I e
  reduction = reduce_term I e (sym (ek ∙ its_kind ks ns (length I) (length Γ) e S.rows) ∙ hk)

  -- its array and its start, as they are used
  abbrev pub array_used : Expression
  array_used = expression_of I (second_operand e) Γ Δ s.regions

  abbrev pub start_used : Expression
  start_used = expression_of I (first_operand e) Γ Δ (s.regions + regions_opened (second_operand e))

  abbrev pub total_used : Expression
  total_used = Expression.region start.regions (type_of I Γ (first_operand e))

  its_type : type_at Y p ≡ type_of I Γ (first_operand e)
  its_type = ap (type_at Y) ep ∙ (type_here ks ns C Y N T s I Γ Δ e S).1 ∙ reduction.types Γ

  few_types : p < 65536
  few_types = omega (arith, ep, (type_here ks ns C Y N T s I Γ Δ e S).0)

  some_node : 1 ≤ start.len
  some_node = omega (arith, B.below)

  array_below : array.value < start.len
  array_below = omega (arith, A.below, G.len, B.more)

  before : Grown T W s.len
  before = grown_more T U W s.len s₁.len (omega (arith, A.more, G.len)) A.grown B.grown

  nodes_put : Grown W X start.len
  nodes_put =
      grown_more W H.begun.between X start.len (start.len + 3) (omega arith)
      (reduction_grown W H.begun.between p array.value s.counters start.regions region start.len H.begun.nodes) H.begun.grown

  inside : Grown T X s.len
  inside = grown_more T W X s.len start.len (omega (arith, A.more, G.len, B.more)) before nodes_put

  its_array : expression_at Y N W array.value ≡ array_used
  its_array = reads_on U W s₁.len array.value (omega (arith, A.below, G.len)) B.grown Y N ∙ A.value

  its_start : expression_at Y N W start.value ≡ start_used
  its_start = B.value ∙ ap (expression_of I (first_operand e) Γ Δ) (G.regions ∙ A.regions)

  its_total : expression_at Y N X start.len ≡ total_used
  its_total =
      reads_on H.begun.between X (start.len + 3) start.len (omega arith) H.begun.grown Y N
      ∙ total_reads W H.begun.between p array.value s.counters start.regions region start.len H.begun.nodes hl some_node few_types array_below hc (omega arith) Y N
      ∙ ap (Expression.region start.regions) its_type

  its_element : expression_at Y N X (start.len + 1) ≡ Expression.index array_used (Offset.counter s.counters)
  its_element =
      reads_on H.begun.between X (start.len + 3) (start.len + 1) (omega arith) H.begun.grown Y N
      ∙ element_reads W H.begun.between p array.value s.counters start.regions region start.len H.begun.nodes hl some_node few_types array_below hc (omega arith) Y N
      ∙ ap (λ (E : Expression). Expression.index E (Offset.counter s.counters)) its_array

  -- what its body is given, behind the a rows of its start
  pub reduction_body : (a : ℕ) → a ≡ length (term_rows (first_operand e)) → s.count + 1 < 16
      → Stands (part (1 + a + array.rows) ks) (part (1 + a + array.rows) ns) (part (1 + a + array.rows) C) Y N X s₂ I
      (type_of I Γ (first_operand e) ∷ element (type_of I Γ (second_operand e)) ∷ Γ) (total_used ∷ Expression.index array_used (Offset.counter s.counters) ∷ Δ) (third_operand e)
  reduction_body a ea h =
      stands_round ks ns C Y N T s I Γ Δ e S reduction.count a ea array.rows A.passed total_used (Expression.index array_used (Offset.counter s.counters)) X s₂
      (variables_two Y N T X s s₂ Δ S.variables inside (omega (arith, A.more, G.len, B.more, H.round.len)) (start.len + 1) start.len
      (Expression.index array_used (Offset.counter s.counters)) total_used h (omega (arith, H.round.len))
      (omega (arith, H.round.len)) its_element its_total H.round.variables H.round.count)

  module _ (Z Q : List ℕ) (o₃ o₄ o₅ : Table) (a n m : ℕ) (body r : Translated) where
    pub used_reduce : a ≡ length (term_rows (first_operand e)) → n ≡ array_length (type_at Y (get_or C (1 + a) 0)) → m ≡ 1 + a + array.rows
        → o₃ ≡ entered_rows (type_at Y p) n (expression_at Y N W start.value) s.counters start.regions o₂
        → Written Y N I (type_of I Γ (first_operand e) ∷ element (type_of I Γ (second_operand e)) ∷ Γ) (total_used ∷ Expression.index array_used (Offset.counter s.counters) ∷ Δ) (third_operand e)
        (acceptor_at Y X (start.len + 2)) s₂ X Z o₃ o₄ body
        → ReductionLeft Z Q start.len start.regions m body r
        → o₅ ≡ left_rows (type_at Y p) (expression_at Y N Z (start.len + 2)) (acceptor_at Y Z start.len) s.counters start.regions o₄
        → Used Y N I Γ Δ e s T Q o o₅ r
    used_reduce ea en em q₁ D L q₂ =
        let z : Term = first_operand e in
        let f : Term = second_operand e in
        let b : Term = third_operand e in
        let c : ℕ = s.counters in
        let g : ℕ = start.regions in
        let t : DataType = type_of I Γ z in
        let Γ' : List DataType = t ∷ element (type_of I Γ f) ∷ Γ in
        let Δ' : List Expression = total_used ∷ Expression.index array_used (Offset.counter c) ∷ Δ in
        let tot : ℕ = start.len in
        let eg₁ : s₁.regions ≡ s.regions + regions_opened f = G.regions ∙ A.regions in
        let eg : g ≡ s.regions + regions_opened f + regions_opened z = B.regions ∙ ap (λ (i : ℕ). i + regions_opened z) eg₁ in
        let N₀ : ReductionPushed W H.begun.between p array.value c g region tot = H.begun.nodes in
        let few : region < 65536 = omega (arith, body_region_few (type_at Y p) g) in
        let hs : tot + 3 ≤ s₂.len = omega (arith, H.round.len) in
        let kept : Grown H.begun.between Z (tot + 3) = grown_more H.begun.between X Z (tot + 3) s₂.len hs H.begun.grown D.grown in
        let eT : acceptor_at Y Z tot ≡ Acceptor.region g t
        = writes_on H.begun.between Z (tot + 3) tot (omega arith) kept Y
        ∙ total_writes W H.begun.between p array.value c g region tot N₀ hl some_node few_types array_below hc (omega arith) Y
        ∙ ap (Acceptor.region g) its_type in
        let eN : expression_at Y N Z (tot + 2) ≡ Expression.region (body_region t g) t
        = reads_on H.begun.between Z (tot + 3) (tot + 2) (omega arith) kept Y N
        ∙ target_reads W H.begun.between p array.value c g region tot N₀ hl some_node few_types array_below hc (omega arith) Y few N
        ∙ ap (λ (u : DataType). Expression.region (body_region u g) u) its_type in
        let eP : acceptor_at Y X (tot + 2) ≡ Acceptor.region (body_region t g) t
        = writes_on H.begun.between X (tot + 3) (tot + 2) (omega arith) H.begun.grown Y
        ∙ target_writes W H.begun.between p array.value c g region tot N₀ hl some_node few_types array_below hc (omega arith) Y few
        ∙ ap (λ (u : DataType). Acceptor.region (body_region u g) u) its_type in
        let eV : expression_at Y N Q tot ≡ total_used
        = reads_on Z Q body.len tot (omega (arith, D.more, hs)) L.grown Y N
        ∙ reads_on X Z s₂.len tot (omega (arith, hs)) D.grown Y N
        ∙ its_total in
        let x : List Row = use_rows I f Γ Δ c s.regions in
        let y : List Row = use_rows I z Γ Δ c (s.regions + regions_opened f) in
        let r₂ : o₂ ≡ put_rows y (put_rows x o)
        = B.rows
        ∙ ap₂ (λ (i j : ℕ). put_rows (use_rows I z Γ Δ i j) o₁) G.counters eg₁
        ∙ ap (put_rows y) A.rows in
        let r₃ : o₃ ≡ entered_rows t n start_used c g (put_rows y (put_rows x o))
        = q₁
        ∙ ap₂ (λ (u : DataType) (E : Expression). entered_rows u n E c g o₂) its_type its_start
        ∙ ap (entered_rows t n start_used c g) r₂ in
        let r₄ : o₄
        ≡ put_rows (command_rows (write_term I b Γ' Δ' (c + 1) (body_region t g + 1) (Acceptor.region (body_region t g) t)))
        (entered_rows t n start_used c g (put_rows y (put_rows x o)))
        = D.rows
        ∙ ap₂ (λ (i j : ℕ). put_rows (command_rows (write_term I b Γ' Δ' i j (acceptor_at Y X (tot + 2)))) o₃) H.round.counters
        (H.round.regions ∙ ap (λ (u : DataType). body_region u g + 1) its_type)
        ∙ ap₂ (λ (P : Acceptor) (u : Table). put_rows (command_rows (write_term I b Γ' Δ' (c + 1) (body_region t g + 1) P)) u) eP r₃ in
        let r₅ : o₅ ≡ put_rows (reduce_rows I z f b Γ Δ c g array_used start_used) (put_rows y (put_rows x o))
        = q₂
        ∙ ap (λ (u : DataType). left_rows u (expression_at Y N Z (tot + 2)) (acceptor_at Y Z tot) c g o₄) its_type
        ∙ ap₂ (λ (E : Expression) (P : Acceptor). left_rows t E P c g o₄) eN eT
        ∙ ap (left_rows t (Expression.region (body_region t g) t) (Acceptor.region g t) c g) r₄
        ∙ reduction_rows I z f b Γ Δ c g array_used start_used (put_rows y (put_rows x o)) t refl n
        (en ∙ ap array_length (type_array ks ns C Y N T s I Γ Δ e S reduction.count a ea reduction.opens).1) in
        record {
          passed = omega (arith, L.rows, em, ea, A.passed, D.passed, rows_of_three e (omega (arith, reduction.count)));
          rows =
              r₅
              ∙ ap (λ (i : ℕ). put_rows (reduce_rows I z f b Γ Δ c i array_used start_used) (put_rows y (put_rows x o))) eg
              ∙ sym (put_append y _ (put_rows x o))
              ∙ sym (put_append x _ o)
              ∙ ap (λ (l : List Row). put_rows l o) (sym (reduction.rows Γ Δ c s.regions));
          value =
              ap (expression_at Y N Q) L.value
              ∙ eV
              ∙ ap₂ Expression.region eg (sym (reduction.types Γ))
              ∙ sym (reduction.reads Γ Δ s.regions);
          below = omega (arith, L.value, L.len, D.more, hs);
          regions = omega (arith, L.regions, eg, reduction.opened);
          grown =
              grown_more T Z Q s.len body.len (omega (arith, A.more, G.len, B.more, H.round.len, D.more))
              (grown_more T X Z s.len s₂.len (omega (arith, A.more, G.len, B.more, H.round.len)) inside D.grown) L.grown;
          more = omega (arith, A.more, G.len, B.more, H.round.len, D.more, L.len);
          few = omega (arith, A.few, G.len, B.few, H.round.len, D.few, L.len, rows_of_three e (omega (arith, reduction.count)));
        }
