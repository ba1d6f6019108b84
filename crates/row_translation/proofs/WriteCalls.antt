-- What a write is given for its calls: where the operands stand, and room for what they make. Assumes nothing.
use mathlib.Core.Path.{◌≡◌, refl, ap, sym, subst, ◌∙◌}
use mathlib.Core.Bool.{Bool, true, false, cond}
use mathlib.Core.List.{List, ◌∷◌}
use Prim.Native.Nat.{ℕ, ◌+◌, ◌*◌, ◌≤◌, ◌<◌}
use native.Mathlib.Omega.{arith}
use lib.IntN.{ℤ, pos}
use lib.ListN.{length, get_or}
use Rattle.words.specs.Kinds.{word_ctr}
use Rattle.meaning.specs.Types.{DataType, element, levels}
use Rattle.meaning.specs.Terms.{Term}
use Rattle.meaning.specs.Typing.{type_of}
use Rattle.meaning.specs.Loops.{Offset}
use Rattle.meaning.specs.Expressions.{Expression, Acceptor}
use Rattle.meaning.specs.Rows.{term_rows}
use Rattle.meaning.proofs.Laws.UseRows.{expression_of}
use Rattle.syntax.specs.Ranges.{as_natural}
use Rattle.syntax.specs.Standing.{term_kind, operand_count, first_operand, second_operand}
use Rattle.syntax.proofs.Standing.{rows_of_two, no_leaf}
use Rattle.syntax.proofs.Front.{part}
use Rattle.type_table.specs.Table.{type_at, Sound}
use Rattle.emission.specs.Table.{Table}
use Rattle.emission.specs.Growth.{Grown}
use Rattle.emission.specs.Laws.Growth.{grown_none, grown_more}
use Rattle.emission.specs.Laws.Assign.{both_grown}
use Rattle.words.specs.Groups.{is_leaf, is_map}
use Rattle.clauses.specs.Clauses.{is_paired, is_regrouped, region_node, IntoPart, MapEntered}
use Rattle.row_translation.specs.WriteAndUse.{Stands, ReadyToUse, ReadyToWrite, Room, nodes_used, nodes_written, Used, Written, Uses, Writes}
use Rattle.row_translation.specs.Laws.Kinds.{MapTerm, map_term, PairedTerm, paired_term, RegroupedTerm, regrouped_term}
use Rattle.row_translation.specs.Laws.Calls.{regions_few_holds, room_on, stands_in_part, stands_in_second}
use Rattle.row_translation.specs.Laws.Ranges.{map_fits}
use Rattle.row_translation.specs.Laws.Writes.{map_body}
use Rattle.clauses.specs.declared.State.{State}
use Rattle.clauses.specs.declared.Translated.{Translated}
use Rattle.row_translation.proofs.TermRows.{some_rows}
use Rattle.row_translation.proofs.Calls as calls
use Rattle.row_translation.proofs.Calls.{ready_use, ready_write}

-- the kind of a part, named otherwise
pub into_same : {T U : List ℕ} {i j n P m : ℕ} {s r : State} → i ≡ j → IntoPart T U i n P m s r → IntoPart T U j n P m s r
into_same {T} {U} {n = n} {P = P} {m = m} {s = s} {r = r} q F = subst (λ (k : ℕ). IntoPart T U k n P m s r) q F

node_of : (b : Bool) → cond b 1 0 ≤ 1
node_of true = omega arith
node_of false = omega arith

region_node_holds : (k : ℕ) → region_node k ≤ 1
region_node_holds k = node_of (is_map k)

module _ (ks : List ℕ) (ns : List ℤ) (C Y : List ℕ) (N : List ℤ) (T : List ℕ) (s : State) (I Γ : List DataType) (Δ : List Expression) (e : Term)
    (S : Stands ks ns C Y N T s I Γ Δ e) where
  head : get_or ks 0 0 ≡ term_kind e
  head = calls.head ks ns C Y N T s I Γ Δ e S

  bounds : (1 ≤ length ks) × (length ks ≡ length ns) × (length ks ≤ length C) × (length ns ≤ length N) × (length (term_rows e) ≤ length ks)
  bounds = calls.bounds ks ns C Y N T s I Γ Δ e S

  typed : get_or C 0 0 < length Y
  typed = calls.typed ks ns C Y N T s I Γ Δ e S

  few_levels : Sound Y (length Y) → levels (type_at Y (get_or C 0 0)) ≤ 8
  few_levels Z = (Z.each (get_or C 0 0) typed).within.1

  -- a term that is no map is used where it is to be written
  module _ (hm : is_map (get_or ks 0 0) ≡ false) (R : Room (nodes_written e) Y N T s) where
    no_node : region_node (term_kind e) ≡ 0
    no_node = ap (λ (b : Bool). cond b 1 0) (ap is_map (sym head) ∙ hm)

    pub used_asks : ReadyToUse ks ns C Y N T s
    used_asks =
        ready_use S (room_on (nodes_written e) (nodes_used e) Y N T T s s R (grown_none T s.len R.size) (omega arith) (omega (arith, no_node)) (omega (arith, no_node)) (omega (arith, no_node)))

    pub assign_asks : (target : ℕ) → target < s.len → {U : List ℕ} {o o' : Table} {r : Translated} → Uses ks ns C Y N s T U o o' r
        → Sound Y (length Y) × (get_or C 0 0 < length Y) × (r.value < r.len) × (target < r.len) × (r.len + 2 * levels (type_at Y (get_or C 0 0)) ≤ 1024)
        × (s.counters + levels (type_at Y (get_or C 0 0)) < 65536)
    assign_asks target ht H =
        let A = H I Γ Δ e S in
        (R.types, typed, A.below, omega (arith, ht, A.more), omega (arith, R.nodes, A.few, no_node, few_levels R.types), omega (arith, R.counters, few_levels R.types))

  -- the words tell which terms these are
  pub paired_node : is_paired (get_or ks 0 0) ≡ true → (is_leaf (get_or ks 0 0) ≡ false) × (region_node (term_kind e) ≡ 0)
  paired_node h =
      let q : PairedTerm I e = paired_term I e (ap is_paired (sym head) ∙ h) in
      (ap is_leaf head ∙ no_leaf e (omega (arith, q.count)), q.no_map)

  pub regrouped_node : is_regrouped (get_or ks 0 0) ≡ true → (is_leaf (get_or ks 0 0) ≡ false) × (region_node (term_kind e) ≡ 0)
  regrouped_node h =
      let q : RegroupedTerm I e = regrouped_term I e (ap is_regrouped (sym head) ∙ h) in
      (ap is_leaf head ∙ no_leaf e (omega (arith, q.count)), q.no_map)

  pub map_past : is_map (get_or ks 0 0) ≡ true → is_leaf (get_or ks 0 0) ≡ false
  map_past h = ap is_leaf head ∙ no_leaf e (omega (arith, (map_term I e (ap is_map (sym head) ∙ h)).count))

  module _ (l : is_leaf (get_or ks 0 0) ≡ false) where
    one : 1 ≤ operand_count e
    one = calls.one ks ns C Y N T s I Γ Δ e S l

    fewer : 1 + length (term_rows (first_operand e)) ≤ length (term_rows e)
    fewer = calls.fewer ks ns C Y N T s I Γ Δ e S l

    -- the array of a map that is written
    pub array_of_map_asks : Room (nodes_written e) Y N T s → ReadyToUse (part 1 ks) (part 1 ns) (part 1 C) Y N T s
    array_of_map_asks R =
        let n : region_node (term_kind e) ≤ 1 = region_node_holds (term_kind e) in
        ready_use (calls.first_here ks ns C Y N T s I Γ Δ e S l)
        (room_on (nodes_written e) (nodes_used (first_operand e)) Y N T T s s R (grown_none T s.len R.size)
        (omega arith) (omega (arith, n, fewer)) (omega (arith, n, fewer)) (omega (arith, n, fewer)))

    -- the body of a map that is written, where the element is entered
    module _ {U : List ℕ} {o o₁ : Table} {r : Translated} (H : Uses (part 1 ks) (part 1 ns) (part 1 C) Y N s T U o o₁ r)
        (hm : is_map (get_or ks 0 0) ≡ true) (target : ℕ) (ht : target < s.len) where
      array_used_holds : Used Y N I Γ Δ (first_operand e) s T U o o₁ r
      array_used_holds = calls.first_used ks ns C Y N T s I Γ Δ e S l H

      map : MapTerm I e
      map = map_term I e (ap is_map (sym head) ∙ hm)

      node : region_node (term_kind e) ≡ 1
      node = ap (λ (b : Bool). cond b 1 0) (ap is_map (sym head) ∙ hm)

      map_rows : length (term_rows e) ≡ 1 + length (term_rows (first_operand e)) + length (term_rows (second_operand e))
      map_rows = rows_of_two e map.count

      pub map_reach : 1 + r.rows < length ks
      map_reach = omega (arith, array_used_holds.passed, map_rows, bounds, some_rows (second_operand e))

      pub enter_map_asks : Room (nodes_written e) Y N T s → Sound Y (length Y) × (get_or C 0 0 < length Y) × (r.value < r.len) × (target < r.len) × (r.len + 2 ≤ 1024)
          × (s.counters < 65535) × (s.count < 16)
      enter_map_asks R = (
        R.types,
        typed,
        array_used_holds.below,
        omega (arith, ht, array_used_holds.more),
        omega (arith, R.nodes, array_used_holds.few, map_rows, node),
        omega (arith, R.counters),
        map_fits ks ns C Y N T s I Γ Δ e S (get_or ks 0 0) (as_natural (get_or ns 0 (pos 0))) refl refl hm,
      )

      module _ {W : List ℕ} {s' : State} (E : MapEntered U W target s r s') (hl : r.len + 2 ≤ 1024) (hc : s.counters < 65535) (hv : s.count < 16) where
        pub body_here : Stands (part (1 + r.rows) ks) (part (1 + r.rows) ns) (part (1 + r.rows) C) Y N W s' I
            (element (type_of I Γ (first_operand e)) ∷ Γ) (Expression.index (expression_of I (first_operand e) Γ Δ s.regions) (Offset.counter s.counters) ∷ Δ) (second_operand e)
        body_here = map_body Y N I Γ Δ s T target ht e ks ns C S (get_or ks 0 0) refl o U W o₁ r s' array_used_holds E hl hc hm hv

        pub body_asks : Room (nodes_written e) Y N T s → (r.len + 1 < s'.len) × ReadyToWrite (part (1 + r.rows) ks) (part (1 + r.rows) ns) (part (1 + r.rows) C) Y N W s'
        body_asks R =
            let g : Grown T W s.len = grown_more T U W s.len r.len array_used_holds.more array_used_holds.grown (both_grown U W r.len word_ctr s.counters r.value target E.nodes) in (
              omega (arith, E.len),
              ready_write body_here
                  (room_on (nodes_written e) (nodes_written (second_operand e)) Y N T W s s' R g (omega (arith, E.len, array_used_holds.more))
                  (omega (arith, E.len, array_used_holds.few, map_rows, node))
                  (omega (arith, E.counters, map_rows, node)) (omega (arith, E.regions, array_used_holds.regions, regions_few_holds (first_operand e), map_rows, node))),
            )

        pub map_later_asks : Room (nodes_written e) Y N T s → {Z : List ℕ} {P : Acceptor} {p p' : Table} {w : Translated}
            → Writes (part (1 + r.rows) ks) (part (1 + r.rows) ns) (part (1 + r.rows) C) Y N P s' W Z p p' w → (1 + r.rows ≤ 65535) × (w.rows ≤ 65535)
        map_later_asks R D =
            let B = D I (element (type_of I Γ (first_operand e)) ∷ Γ) (Expression.index
            (expression_of I (first_operand e) Γ Δ s.regions) (Offset.counter s.counters) ∷ Δ)
            (second_operand e) body_here in
            (omega (arith, map_reach, bounds, R.plan), omega (arith, B.passed, map_rows, bounds, R.plan))

    -- operands that are written into parts of the place
    module _ (target : ℕ) (ht : target < s.len) where
      pub into_asks : Room (nodes_written e) Y N T s → (target < s.len) × (s.len < 1024)
      into_asks R = (ht, omega (arith, R.nodes))

      module _ {U : List ℕ} {i n : ℕ} {s₁ : State} (F : IntoPart T U i n target s.len s s₁) where
        pub part_here : Stands (part 1 ks) (part 1 ns) (part 1 C) Y N U s₁ I Γ Δ (first_operand e)
        part_here = stands_in_part ks ns C Y N T s I Γ Δ e S (get_or ks 0 0) refl one U i n target s₁ F

        pub part_asks : Room (nodes_written e) Y N T s → region_node (term_kind e) ≡ 0 → (s.len < s₁.len) × ReadyToWrite (part 1 ks) (part 1 ns) (part 1 C) Y N U s₁
        part_asks R z = (
          omega (arith, F.len),
          ready_write part_here
              (room_on (nodes_written e) (nodes_written (first_operand e)) Y N T U s s₁ R F.node.grown (omega (arith, F.len)) (omega (arith, F.len, z, fewer)) (omega (arith, F.counters, z, fewer))
              (omega (arith, F.regions, z, fewer))),
        )

        module _ {W : List ℕ} {P : Acceptor} {o o' : Table} {r : Translated} (D : Writes (part 1 ks) (part 1 ns) (part 1 C) Y N P s₁ U W o o' r) where
          pub part_written : Written Y N I Γ Δ (first_operand e) P s₁ U W o o' r
          part_written = D I Γ Δ (first_operand e) part_here

          pub part_later_asks : Room (nodes_written e) Y N T s → (1 ≤ 65535) × (r.rows ≤ 65535)
          part_later_asks R = (omega arith, omega (arith, part_written.passed, fewer, bounds, R.plan))

          module _ (hp : is_paired (get_or ks 0 0) ≡ true) where
            paired : PairedTerm I e
            paired = paired_term I e (ap is_paired (sym head) ∙ hp)

            paired_rows : length (term_rows e) ≡ 1 + length (term_rows (first_operand e)) + length (term_rows (second_operand e))
            paired_rows = rows_of_two e paired.count

            pub paired_reach : 1 + r.rows < length ks
            paired_reach = omega (arith, part_written.passed, paired_rows, bounds, some_rows (second_operand e))

            pub into_second_asks : Room (nodes_written e) Y N T s → (target < r.len) × (r.len < 1024)
            into_second_asks R =
                (omega (arith, ht, F.len, part_written.more), omega (arith, R.nodes, F.len, part_written.few, paired_rows, paired.no_map))

            module _ {X : List ℕ} {j m : ℕ} {s₂ : State} (G : IntoPart W X j m target r.len s s₂) where
              pub second_part_here : Stands (part (1 + r.rows) ks) (part (1 + r.rows) ns) (part (1 + r.rows) C) Y N X s₂ I Γ Δ (second_operand e)
              second_part_here = stands_in_second ks ns C Y N T s I Γ Δ e S (get_or ks 0 0) refl hp U W X i n j m target s₁ o o' r s₂ P F part_written G

              pub second_part_asks : Room (nodes_written e) Y N T s → (r.len < s₂.len) × ReadyToWrite (part (1 + r.rows) ks) (part (1 + r.rows) ns) (part (1 + r.rows) C) Y N X s₂
              second_part_asks R =
                  let g : Grown T W s.len = grown_more T U W s.len s₁.len (omega (arith, F.len)) F.node.grown part_written.grown in
                  let g' : Grown T X s.len = grown_more T W X s.len r.len (omega (arith, F.len, part_written.more)) g G.node.grown in (
                    omega (arith, G.len),
                    ready_write second_part_here
                        (room_on (nodes_written e) (nodes_written (second_operand e)) Y N T X s s₂ R g' (omega (arith, F.len, part_written.more, G.len))
                        (omega (arith, F.len, part_written.few, G.len, paired_rows, paired.no_map))
                        (omega (arith, G.counters, paired_rows, paired.no_map))
                        (omega (arith, G.regions, paired_rows, paired.no_map))),
                  )

              pub paired_later_asks : Room (nodes_written e) Y N T s → {Z : List ℕ} {Q : Acceptor} {p p' : Table} {w : Translated}
                  → Writes (part (1 + r.rows) ks) (part (1 + r.rows) ns) (part (1 + r.rows) C) Y N Q s₂ X Z p p' w → (1 + r.rows ≤ 65535) × (w.rows ≤ 65535)
              paired_later_asks R B =
                  (omega (arith, paired_reach, bounds, R.plan), omega (arith, (B I Γ Δ (second_operand e) second_part_here).passed, paired_rows, bounds, R.plan))
