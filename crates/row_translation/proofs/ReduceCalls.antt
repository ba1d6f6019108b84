-- What the use of a reduction is given for its calls: its array, its start and its body, and room for what they make. Assumes nothing.
use mathlib.Core.Path.{◌≡◌, refl, sym, ◌∙◌}
use mathlib.Core.List.{List, ◌∷◌}
use Prim.Native.Nat.{ℕ, ◌+◌, ◌≤◌, ◌<◌}
use native.Mathlib.Omega.{arith}
use lib.IntN.{ℤ, pos}
use lib.ListN.{length, get_or}
use Rattle.words.specs.Kinds.{word_redseq}
use Rattle.meaning.specs.Types.{DataType, array_length, element}
use Rattle.meaning.specs.Terms.{Term}
use Rattle.meaning.specs.Typing.{type_of}
use Rattle.meaning.specs.Loops.{Offset}
use Rattle.meaning.specs.Expressions.{Expression}
use Rattle.meaning.specs.Rows.{term_rows}
use Rattle.meaning.proofs.Laws.UseRows.{expression_of}
use Rattle.syntax.specs.Ranges.{as_natural}
use Rattle.syntax.specs.Standing.{TermStands, operand_count, first_operand, second_operand, third_operand}
use Rattle.syntax.proofs.Standing.{first_stands, rows_of_three}
use Rattle.syntax.proofs.Front.{part, part_length}
use Rattle.type_table.specs.Table.{type_at, Sound}
use Rattle.emission.specs.Table.{Table}
use Rattle.emission.specs.References.{expression_at, acceptor_at}
use Rattle.emission.specs.Growth.{Grown}
use Rattle.emission.specs.Laws.Growth.{grown_none, grown_more}
use Rattle.clauses.specs.Clauses.{body_region, entered_rows, left_rows, AfterUse, ReductionEntered, ReductionLeft}
use Rattle.row_translation.specs.WriteAndUse.{Stands, SomeRows, CountsRows, ReadyToUse, ReadyToWrite, Room, nodes_used, nodes_written, Used, Written, Uses, Writes}
use Rattle.row_translation.specs.Laws.Kinds.{ReduceTerm, reduce_term}
use Rattle.row_translation.specs.Laws.Operands.{type_array}
use Rattle.row_translation.specs.Laws.Calls.{regions_few_holds, room_on, stands_reduced, stands_start}
use Rattle.row_translation.specs.Laws.Ranges.{reduction_fits}
use Rattle.clauses.specs.Laws.{body_region_few, reduction_grown}
use Rattle.row_translation.specs.Laws.Reductions.{reduction_body, used_reduce}
use Rattle.clauses.specs.declared.State.{State}
use Rattle.clauses.specs.declared.Translated.{Translated}
use Rattle.row_translation.proofs.TermRows.{some_rows}
use Rattle.row_translation.proofs.Calls.{ready_use, ready_write, head, bounds, typed}

module _ (ks : List ℕ) (ns : List ℤ) (C Y : List ℕ) (N : List ℤ) (T : List ℕ) (s : State) (I Γ : List DataType) (Δ : List Expression) (e : Term)
    (S : Stands ks ns C Y N T s I Γ Δ e) (q : get_or ks 0 0 ≡ word_redseq) where
  reduction : ReduceTerm I e
  reduction = reduce_term I e (sym (head ks ns C Y N T s I Γ Δ e S) ∙ q)

  three : 3 ≤ operand_count e
  three = omega (arith, reduction.count)

  all_rows : length (term_rows e)
      ≡ 1 + length (term_rows (first_operand e)) + length (term_rows (second_operand e)) + length (term_rows (third_operand e))
  all_rows = rows_of_three e three

  there : (1 ≤ length ks) × (length ks ≡ length ns) × (length ks ≤ length C) × (length ns ≤ length N) × (length (term_rows e) ≤ length ks)
  there = bounds ks ns C Y N T s I Γ Δ e S

  start_stands : TermStands (part 1 ks) (part 1 ns) (length I) (length Γ) (first_operand e)
  start_stands = first_stands ks ns (length I) (length Γ) e S.rows (omega (arith, three))

  -- the rows of the start are counted
  pub start_rows : length N ≤ 65536 → (length (part 1 ks) ≤ 65536) × SomeRows (part 1 ks)
  start_rows h = (
    omega (arith, h, part_length 1 ks, there),
    record { numbers = part 1 ns; inputs = length I; variables = length Γ; term = first_operand e; stands = start_stands },
  )

  module _ (a : ℕ) (A : CountsRows (part 1 ks) a) where
    a_is : a ≡ length (term_rows (first_operand e))
    a_is = A (part 1 ns) (length I) (length Γ) (first_operand e) start_stands

    pub array_reach : (1 + a < length ks) × (1 + a ≤ 65536 + length ks)
    array_reach = (omega (arith, a_is, all_rows, there, some_rows (second_operand e)), omega (arith, a_is, all_rows, there))

    pub array_typed : get_or C (1 + a) 0 < length Y
    array_typed = (type_array ks ns C Y N T s I Γ Δ e S reduction.count a a_is reduction.opens).0

    array_here : Stands (part (1 + a) ks) (part (1 + a) ns) (part (1 + a) C) Y N T s I Γ Δ (second_operand e)
    array_here = stands_reduced ks ns C Y N T s I Γ Δ e S (get_or ks 0 0) refl q a a_is

    pub array_asks : Room (nodes_used e) Y N T s → ReadyToUse (part (1 + a) ks) (part (1 + a) ns) (part (1 + a) C) Y N T s
    array_asks R =
        ready_use array_here
        (room_on (nodes_used e) (nodes_used (second_operand e)) Y N T T s s R (grown_none T s.len R.size)
        (omega arith) (omega (arith, all_rows)) (omega (arith, all_rows)) (omega (arith, all_rows)))

    module _ {U : List ℕ} {o o₁ : Table} {x : Translated}
        (H : Uses (part (1 + a) ks) (part (1 + a) ns) (part (1 + a) C) Y N s T U o o₁ x) where
      array_used_holds : Used Y N I Γ Δ (second_operand e) s T U o o₁ x
      array_used_holds = H I Γ Δ (second_operand e) array_here

      pub body_reach : 1 + a + x.rows < length ks
      body_reach = omega (arith, a_is, array_used_holds.passed, all_rows, there, some_rows (third_operand e))

      module _ {s₁ : State} (G : AfterUse s x s₁) where
        start_here : Stands (part 1 ks) (part 1 ns) (part 1 C) Y N U s₁ I Γ Δ (first_operand e)
        start_here = stands_start ks ns C Y N T s I Γ Δ e S (get_or ks 0 0) refl q U o o₁ x s₁ array_used_holds G

        pub start_asks : Room (nodes_used e) Y N T s → ReadyToUse (part 1 ks) (part 1 ns) (part 1 C) Y N U s₁
        start_asks R =
            ready_use start_here
            (room_on (nodes_used e) (nodes_used (first_operand e)) Y N T U s s₁ R array_used_holds.grown (omega (arith, G.len, array_used_holds.more))
            (omega (arith, G.len, array_used_holds.few, all_rows))
            (omega (arith, G.counters, all_rows)) (omega (arith, G.regions, array_used_holds.regions, regions_few_holds (second_operand e), all_rows)))

        module _ {W : List ℕ} {o₂ : Table} {y : Translated}
            (B : Uses (part 1 ks) (part 1 ns) (part 1 C) Y N s₁ U W o₁ o₂ y) where
          start_used_holds : Used Y N I Γ Δ (first_operand e) s₁ U W o₁ o₂ y
          start_used_holds = B I Γ Δ (first_operand e) start_here

          -- the region that the body is written into
          abbrev pub region : ℕ
          region = body_region (type_at Y (get_or C 0 0)) y.regions

          pub enter_asks : Room (nodes_used e) Y N T s
              → Sound Y (length Y) × (get_or C 0 0 < length Y) × (x.value < y.len) × (y.value < y.len) × (y.len + 19 ≤ 1024)
              × (s.counters + 8 < 65536) × (y.regions + 2 < 65536) × (s.count + 1 < 16)
          enter_asks R = (
            R.types,
            typed ks ns C Y N T s I Γ Δ e S,
            omega (arith, array_used_holds.below, G.len, start_used_holds.more),
            start_used_holds.below,
            omega (arith, R.nodes, array_used_holds.few, G.len, start_used_holds.few, all_rows, some_rows (third_operand e)),
            omega (arith, R.counters),
            omega (arith, R.regions, array_used_holds.regions, G.regions, start_used_holds.regions, regions_few_holds (first_operand e), regions_few_holds (second_operand e), all_rows),
            reduction_fits ks ns C Y N T s I Γ Δ e S (get_or ks 0 0) (as_natural (get_or ns 0 (pos 0))) refl refl q,
          )

          module _ {X : List ℕ} {s₂ : State} (E : ReductionEntered W X (get_or C 0 0) x.value region s y s₂) (hy : length Y ≤ 65536) (hl : y.len + 3 ≤ 1024)
              (hr : y.regions < 65535) (hc : s.counters < 65536) (hv : s.count + 1 < 16) where
            round_here : Stands (part (1 + a + x.rows) ks) (part (1 + a + x.rows) ns) (part (1 + a + x.rows) C) Y N X s₂ I
                (type_of I Γ (first_operand e) ∷ element (type_of I Γ (second_operand e)) ∷ Γ)
                (Expression.region y.regions (type_of I Γ (first_operand e)) ∷ Expression.index (expression_of I (second_operand e) Γ Δ s.regions) (Offset.counter s.counters) ∷ Δ)
                (third_operand e)
            round_here =
                reduction_body Y N I Γ Δ s T e ks ns C S (get_or ks 0 0) (get_or C 0 0) refl q refl hy U W X o o₁ o₂ x s₁ y s₂ array_used_holds G start_used_holds E hl hr hc a a_is hv

            pub round_asks : Room (nodes_used e) Y N T s
                → (y.len + 2 < s₂.len) × ReadyToWrite (part (1 + a + x.rows) ks) (part (1 + a + x.rows) ns) (part (1 + a + x.rows) C) Y N X s₂
            round_asks R =
                let h : Grown T W s.len = grown_more T U W s.len s₁.len (omega (arith, G.len, array_used_holds.more)) array_used_holds.grown start_used_holds.grown in
                let p : Grown W X y.len
                = grown_more W E.begun.between X y.len (y.len + 3) (omega arith)
                (reduction_grown W E.begun.between (get_or C 0 0) x.value s.counters y.regions region y.len E.begun.nodes) E.begun.grown in
                let g : Grown T X s.len = grown_more T W X s.len y.len (omega (arith, array_used_holds.more, G.len, start_used_holds.more)) h p in (
                  omega (arith, E.round.len),
                  ready_write round_here
                      (room_on (nodes_used e) (nodes_written (third_operand e)) Y N T X s s₂ R g (omega (arith, E.round.len, array_used_holds.more, G.len, start_used_holds.more))
                      (omega (arith, E.round.len, array_used_holds.few, G.len, start_used_holds.few, all_rows)) (omega (arith, E.round.counters, all_rows))
                      (omega (
                        arith,
                        E.round.regions,
                        body_region_few (type_at Y (get_or C 0 0)) y.regions,
                        array_used_holds.regions,
                        G.regions,
                        start_used_holds.regions,
                        regions_few_holds (first_operand e),
                        regions_few_holds (second_operand e),
                        all_rows,
                      ))),
                )

            module _ {Z : List ℕ} {o₃ o₄ : Table} {w : Translated}
                (D : Writes (part (1 + a + x.rows) ks) (part (1 + a + x.rows) ns) (part (1 + a + x.rows) C) Y N (acceptor_at Y X (y.len + 2)) s₂ X Z
                o₃ o₄ w) where
              round_written : Written Y N I (type_of I Γ (first_operand e) ∷ element (type_of I Γ (second_operand e)) ∷ Γ)
                  (Expression.region y.regions (type_of I Γ (first_operand e)) ∷ Expression.index (expression_of I (second_operand e) Γ Δ s.regions) (Offset.counter s.counters) ∷ Δ)
                  (third_operand e) (acceptor_at Y X (y.len + 2)) s₂ X Z o₃ o₄ w
              round_written = D I _ _ (third_operand e) round_here

              pub leave_asks : Room (nodes_used e) Y N T s
                  → Sound Y (length Y) × (get_or C 0 0 < length Y) × (y.len + 2 < w.len) × (w.len + 16 ≤ 1024)
                  × (s.counters + 9 < 65536) × (y.regions + 2 < 65536) × (1 + a + x.rows ≤ 65535) × (w.rows ≤ 65535)
              leave_asks R = (
                R.types,
                typed ks ns C Y N T s I Γ Δ e S,
                omega (arith, E.round.len, round_written.more),
                omega (arith, R.nodes, array_used_holds.few, G.len, start_used_holds.few, E.round.len, round_written.few, all_rows),
                omega (arith, R.counters, all_rows),
                omega (arith, R.regions, array_used_holds.regions, G.regions, start_used_holds.regions, regions_few_holds (first_operand e), regions_few_holds (second_operand e), all_rows),
                omega (arith, R.plan, body_reach, there),
                omega (arith, R.plan, round_written.passed, all_rows, there),
              )

              -- the reduction was used
              pub reduce_returned : {Q : List ℕ} {o₅ : Table} {n : ℕ} {r : Translated} → n ≡ array_length (type_at Y (get_or C (1 + a) 0))
                  → o₃ ≡ entered_rows (type_at Y (get_or C 0 0)) n (expression_at Y N W y.value) s.counters y.regions o₂
                  → ReductionLeft Z Q y.len y.regions (1 + a + x.rows) w r
                  → o₅ ≡ left_rows (type_at Y (get_or C 0 0)) (expression_at Y N Z (y.len + 2)) (acceptor_at Y Z y.len) s.counters y.regions o₄
                  → Used Y N I Γ Δ e s T Q o o₅ r
              reduce_returned {Q} {o₅} {n} {r} en q₁ L q₂ =
                  used_reduce Y N I Γ Δ s T e ks ns C S (get_or ks 0 0) (get_or C 0 0) refl q refl hy U W X o o₁ o₂ x s₁ y s₂ array_used_holds G start_used_holds E hl hr hc
                  Z Q o₃ o₄ o₅ a n (1 + a + x.rows) w r a_is en refl q₁ round_written L q₂
