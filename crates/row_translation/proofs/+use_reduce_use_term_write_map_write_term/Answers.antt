-- Writing and using meet their contracts: each call is given an operand that stands and room for it, each way out cites one law.
use Prim.Native.Nat.{◌+◌}
use mathlib.Core.Path.{ap, sym, ◌∙◌, refl}
use native.Mathlib.Omega.{arith}
use lib.ListN.{length}
use Rattle.words.specs.Groups.{is_leaf, is_map, has_one_operand}
use Rattle.clauses.specs.Clauses.{is_paired, is_regrouped}
use Rattle.syntax.specs.Standing.{second_operand}
use Rattle.syntax.proofs.Front.{part_length}
use Rattle.row_translation.specs.WriteAndUse.{nodes_used}
use Rattle.row_translation.specs.Laws.Calls.{stands_region}
use Rattle.row_translation.specs.Laws.Leaves.{used_leaf}
use Rattle.row_translation.specs.Laws.Uses.{used_over_one, used_over_two, used_map}
use Rattle.row_translation.specs.Laws.Writes.{written_map, written_assigned, written_paired, written_regrouped}
use Rattle.row_translation.proofs.Sizes.{sizes, from_asks}
use Rattle.row_translation.proofs.Calls.{leaf_asks, open_asks, opened_asks, two_rows, first_asks, number_asks, first_used, first_reach}
use Rattle.row_translation.proofs.Calls.{over_one_asks, second_asks, second_used, over_two_asks, use_as, write_as, uses_as, writes_as}
use Rattle.row_translation.proofs.ReduceCalls.{start_rows, array_reach, array_typed, array_asks, body_reach, start_asks, enter_asks, round_asks, leave_asks, reduce_returned}
use Rattle.row_translation.proofs.WriteCalls.{map_past, array_of_map_asks, map_reach, enter_map_asks, body_here, body_asks, map_later_asks, into_same}
use Rattle.row_translation.proofs.WriteCalls.{used_asks, assign_asks, into_asks, part_asks, part_written, part_later_asks, paired_reach}
use Rattle.row_translation.proofs.WriteCalls.{into_second_asks, second_part_here, second_part_asks, paired_later_asks, paired_node, regrouped_node}
use Rattle.row_translation.proofs.+use_reduce_use_term_write_map_write_term.Goals as goal

-- `use_reduce`: the array is used, then the start, and the body is written in a round for each element.

pub reductions::use_reduce-rows_of-requires : goal.reductions::use_reduce-rows_of-requires
reductions::use_reduce-rows_of-requires t c =
    start_rows _ _ _ _ _ _ _ _ _ _ _ c.requires.1.0.stands c.requires.0 c.requires.1.1.plan

pub reductions::use_reduce-overflow_add-from : goal.reductions::use_reduce-overflow_add-from
reductions::use_reduce-overflow_add-from t c =
    omega (arith, (array_reach _ _ _ _ _ _ _ _ _ _ _ c.requires.1.0.stands c.requires.0 c.rows_of.result c.rows_of.ensures).0, sizes c.requires.1.0 c.requires.1.1)

pub reductions::use_reduce-from-requires : goal.reductions::use_reduce-from-requires
reductions::use_reduce-from-requires t c =
    from_asks _ _ _ _ _ (sizes c.requires.1.0 c.requires.1.1) (omega (
      arith,
      (array_reach _ _ _ _ _ _ _ _ _ _ _ c.requires.1.0.stands c.requires.0 c.rows_of.result
          c.rows_of.ensures).0,
    ))

pub reductions::use_reduce-use_term-array-requires : goal.reductions::use_reduce-use_term-array-requires
reductions::use_reduce-use_term-array-requires t c = (
  omega (
    arith,
    (array_reach _ _ _ _ _ _ _ _ _ _ _ c.requires.1.0.stands c.requires.0 c.rows_of.result c.rows_of.ensures).0,
    part_length (1 + c.rows_of.result)
        c.args.term.kinds.now,
    ap length c.from.ensures.0,
  ),
  use_as c.from.ensures (array_asks _ _ _ _ _ _ _ _ _ _ _ c.requires.1.0.stands c.requires.0 c.rows_of.result c.rows_of.ensures c.requires.1.1),
)

pub reductions::use_reduce-use_term-start-requires : goal.reductions::use_reduce-use_term-start-requires
reductions::use_reduce-use_term-start-requires t c = (
  omega (arith, sizes c.requires.1.0 c.requires.1.1, part_length 1 c.args.term.kinds.now, ap length c.from-2.ensures.0),
  use_as c.from-2.ensures (start_asks _ _ _ _ _ _ _ _ _ _ _ c.requires.1.0.stands c.requires.0 c.rows_of.result c.rows_of.ensures (uses_as c.from.ensures
      c.use_term-array.ensures) c.after_use-behind.ensures c.requires.1.1),
)

pub reductions::use_reduce-place_at-requires-2 : goal.reductions::use_reduce-place_at-requires-2
reductions::use_reduce-place_at-requires-2 t c =
    omega (arith, (array_reach _ _ _ _ _ _ _ _ _ _ _ c.requires.1.0.stands c.requires.0 c.rows_of.result c.rows_of.ensures).0, sizes c.requires.1.0 c.requires.1.1)

pub reductions::use_reduce-array_length-requires : goal.reductions::use_reduce-array_length-requires
reductions::use_reduce-array_length-requires t c =
    (c.requires.1.1.types, omega (arith, array_typed _ _ _ _ _ _ _ _ _ _ _ c.requires.1.0.stands c.requires.0 c.rows_of.result c.rows_of.ensures, c.place_at-2.ensures))

pub reductions::use_reduce-enter_reduction-inside-requires : goal.reductions::use_reduce-enter_reduction-inside-requires
reductions::use_reduce-enter_reduction-inside-requires t c =
    rw c.place_at.ensures (enter_asks _ _ _ _ _ _ _ _ _ _ _ c.requires.1.0.stands c.requires.0 c.rows_of.result c.rows_of.ensures (uses_as c.from.ensures
    c.use_term-array.ensures) c.after_use-behind.ensures
    (uses_as c.from-2.ensures c.use_term-start.ensures) c.requires.1.1)

pub reductions::use_reduce-overflow_add-at : goal.reductions::use_reduce-overflow_add-at
reductions::use_reduce-overflow_add-at t c =
    omega (
      arith,
      body_reach _ _ _ _ _ _ _ _ _ _ _ c.requires.1.0.stands c.requires.0 c.rows_of.result c.rows_of.ensures (uses_as c.from.ensures
          c.use_term-array.ensures),
      sizes c.requires.1.0 c.requires.1.1,
    )

pub reductions::use_reduce-from-requires-3 : goal.reductions::use_reduce-from-requires-3
reductions::use_reduce-from-requires-3 t c =
    from_asks _ _ _ _ _ (sizes c.requires.1.0 c.requires.1.1) (omega (
      arith,
      body_reach _ _ _ _ _ _ _ _ _ _ _ c.requires.1.0.stands c.requires.0 c.rows_of.result
          c.rows_of.ensures (uses_as c.from.ensures c.use_term-array.ensures),
    ))

pub reductions::use_reduce-write_term-body-requires : goal.reductions::use_reduce-write_term-body-requires
reductions::use_reduce-write_term-body-requires t c =
    let h = enter_asks _ _ _ _ _ _ _ _ _ _ _ c.requires.1.0.stands c.requires.0 c.rows_of.result c.rows_of.ensures (uses_as c.from.ensures c.use_term-array.ensures)
    c.after_use-behind.ensures
    (uses_as c.from-2.ensures c.use_term-start.ensures) c.requires.1.1 in (
      omega (
        arith,
        body_reach _ _ _ _ _ _ _ _ _ _ _ c.requires.1.0.stands c.requires.0 c.rows_of.result c.rows_of.ensures (uses_as c.from.ensures c.use_term-array.ensures),
        part_length (1 + c.rows_of.result + c.use_term-array.result.rows) c.args.term.kinds.now,
        ap length c.from-3.ensures.0,
      ),
      (
        (round_asks _ _ _ _ _ _ _ _ _ _ _ c.requires.1.0.stands c.requires.0 c.rows_of.result c.rows_of.ensures (uses_as c.from.ensures c.use_term-array.ensures)
            c.after_use-behind.ensures
            (uses_as c.from-2.ensures c.use_term-start.ensures) (rw c.place_at.ensures at c.enter_reduction-inside.ensures.made) c.requires.1.1.types.few
            (omega (arith, h.4)) (omega (arith, h.6)) (omega (arith, h.5)) h.7 c.requires.1.1).0,
        write_as c.from-3.ensures (round_asks _ _ _ _ _ _ _ _ _ _ _ c.requires.1.0.stands c.requires.0 c.rows_of.result c.rows_of.ensures (uses_as c.from.ensures
            c.use_term-array.ensures) c.after_use-behind.ensures
            (uses_as c.from-2.ensures c.use_term-start.ensures) (rw c.place_at.ensures at c.enter_reduction-inside.ensures.made) c.requires.1.1.types.few
            (omega (arith, h.4)) (omega (arith, h.6)) (omega (arith, h.5)) h.7 c.requires.1.1).1,
      ),
    )

pub reductions::use_reduce-leave_reduction-requires : goal.reductions::use_reduce-leave_reduction-requires
reductions::use_reduce-leave_reduction-requires t c =
    let h = enter_asks _ _ _ _ _ _ _ _ _ _ _ c.requires.1.0.stands c.requires.0 c.rows_of.result c.rows_of.ensures (uses_as c.from.ensures c.use_term-array.ensures)
    c.after_use-behind.ensures
    (uses_as c.from-2.ensures c.use_term-start.ensures) c.requires.1.1 in
    rw c.place_at.ensures
    (leave_asks _ _ _ _ _ _ _ _ _ _ _ c.requires.1.0.stands c.requires.0 c.rows_of.result c.rows_of.ensures (uses_as c.from.ensures c.use_term-array.ensures)
    c.after_use-behind.ensures
    (uses_as c.from-2.ensures c.use_term-start.ensures) (rw c.place_at.ensures at c.enter_reduction-inside.ensures.made) c.requires.1.1.types.few
    (omega (arith, h.4)) (omega (arith, h.6)) (omega (arith, h.5)) h.7
    (writes_as c.from-3.ensures c.write_term-body.ensures) c.requires.1.1)

pub reductions::use_reduce-returns : goal.reductions::use_reduce-returns
reductions::use_reduce-returns t c I Γ Δ e S =
    let h = enter_asks _ _ _ _ _ _ _ _ _ _ _ c.requires.1.0.stands c.requires.0 c.rows_of.result c.rows_of.ensures (uses_as c.from.ensures c.use_term-array.ensures)
    c.after_use-behind.ensures
    (uses_as c.from-2.ensures c.use_term-start.ensures) c.requires.1.1 in
    reduce_returned _ _ _ _ _ _ _ _ _ _ _ S c.requires.0 c.rows_of.result c.rows_of.ensures (uses_as c.from.ensures c.use_term-array.ensures) c.after_use-behind.ensures
    (uses_as c.from-2.ensures c.use_term-start.ensures) (rw c.place_at.ensures at c.enter_reduction-inside.ensures.made) c.requires.1.1.types.few
    (omega (arith, h.4)) (omega (arith, h.6)) (omega (arith, h.5)) h.7
    (writes_as c.from-3.ensures c.write_term-body.ensures) (rw c.place_at-2.ensures at c.array_length.ensures)
    (rw c.place_at.ensures at c.enter_reduction-inside.ensures.rows) c.leave_reduction.ensures.made
    (rw c.place_at.ensures at c.leave_reduction.ensures.rows)

-- `use_term`: by the word of the first row.

pub uses::use_term-head-head-requires : goal.uses::use_term-head-head-requires
uses::use_term-head-head-requires t c =
    from_asks _ _ _ _ _ (sizes c.requires.0 c.requires.1) (sizes c.requires.0 c.requires.1).0

pub uses::use_term-leaf-requires : goal.uses::use_term-leaf-requires
uses::use_term-leaf-requires t c =
    leaf_asks _ _ _ _ _ _ _ _ _ _ _ c.requires.0.stands (nodes_used c.requires.0.term) c.requires.1 c.head-head.result.kind c.head-head.result.number
    c.head-head.result.place c.head-head.ensures.0 c.head-head.ensures.1 (omega (arith, sizes c.requires.0 c.requires.1, c.head-head.ensures.2))

pub uses::use_term-returns-then-is_leaf : goal.uses::use_term-returns-then-is_leaf
uses::use_term-returns-then-is_leaf t c I Γ Δ e S =
    let h = leaf_asks _ _ _ _ _ _ _ _ _ _ _ c.requires.0.stands (nodes_used c.requires.0.term) c.requires.1 c.head-head.result.kind c.head-head.result.number
    c.head-head.result.place c.head-head.ensures.0 c.head-head.ensures.1 (omega (arith, sizes c.requires.0 c.requires.1, c.head-head.ensures.2)) in
    used_leaf c.args.source.types.now c.args.source.plan.now I Γ Δ c.args.state c.args.made.now.references _ _ _ e c.args.term.kinds.now c.args.term.numbers.now
    c.args.term.column.now c.head-head.result.kind
    c.head-head.result.number c.head-head.result.place _ S c.head-head.ensures.0 c.head-head.ensures.1 c.head-head.ensures.2 refl
    (sym c.is_leaf.ensures ∙ c.if-is_leaf.true) h.0 h.1 h.2 h.3 c.requires.1.size c.leaf.ensures

pub uses::use_term-open_region-opened-requires : goal.uses::use_term-open_region-opened-requires
uses::use_term-open_region-opened-requires t c =
    rw c.head-head.ensures.2 (open_asks _ _ _ _ _ _ _ _ _ _ _ c.requires.0.stands c.requires.1)

pub uses::use_term-write_map-written-requires : goal.uses::use_term-write_map-written-requires
uses::use_term-write_map-written-requires t c = (
  omega arith,
  (
    (ap is_map (sym c.head-head.ensures.0) ∙ sym c.is_map.ensures ∙ c.if-is_map.true),
    omega (arith, c.open_region-opened.ensures.made.len),
    opened_asks _ _ _ _ _ _ _
        _ _ _ _ c.requires.0.stands c.requires.1 (ap is_map (sym c.head-head.ensures.0) ∙ sym c.is_map.ensures ∙ c.if-is_map.true) c.open_region-opened.ensures.made,
  ),
)

pub uses::use_term-returns-then-is_map : goal.uses::use_term-returns-then-is_map
uses::use_term-returns-then-is_map t c I Γ Δ e S =
    let h = open_asks _ _ _ _ _ _ _ _ _ _ _ c.requires.0.stands c.requires.1 in
    used_map c.args.source.types.now c.args.source.plan.now I Γ Δ c.args.state c.args.made.now.references e _ _ _ _ _ c.head-head.result.kind c.head-head.result.place
    _ _ _ c.args.term.kinds.now c.args.term.numbers.now c.args.term.column.now S c.head-head.ensures.0 c.head-head.ensures.2 (sym c.is_map.ensures ∙ c.if-is_map.true)
    c.requires.1.types.few h.2 h.3 h.4 c.open_region-opened.ensures.made c.open_region-opened.ensures.rows
    (c.write_map-written.ensures I Γ Δ e (stands_region _ _ _ _ _ _ _ _ _ _ _ S _ _ _ c.open_region-opened.ensures.made)) c.region_used.ensures

pub uses::use_term-from-requires : goal.uses::use_term-from-requires
uses::use_term-from-requires t c =
    from_asks _ _ _ _ _ (sizes c.requires.0 c.requires.1) (sizes c.requires.0 c.requires.1).0

pub uses::use_term-use_term-one-requires : goal.uses::use_term-use_term-one-requires
uses::use_term-use_term-one-requires t c = (
  omega (arith, sizes c.requires.0 c.requires.1, part_length 1 c.args.term.kinds.now, ap length c.from.ensures.0),
  use_as c.from.ensures (first_asks _ _ _ _ _ _ _ _ _ _ _ c.requires.0.stands (ap is_leaf (sym c.head-head.ensures.0) ∙ sym c.is_leaf.ensures ∙ c.if-is_leaf.false)
      c.requires.1),
)

pub uses::use_term-place_at-requires : goal.uses::use_term-place_at-requires
uses::use_term-place_at-requires t c =
    omega (
      arith,
      two_rows _ _ _ _ _ _ _ _ _ _ _ c.requires.0.stands (ap is_leaf (sym c.head-head.ensures.0) ∙ sym c.is_leaf.ensures ∙ c.if-is_leaf.false),
      sizes
          c.requires.0 c.requires.1,
    )

pub uses::use_term-node_number-held-requires : goal.uses::use_term-node_number-held-requires
uses::use_term-node_number-held-requires t c =
    rw c.place_at.ensures (number_asks _ _ _ _ _ _ _ _ _ _ _ c.requires.0.stands (ap is_leaf (sym c.head-head.ensures.0) ∙ sym c.is_leaf.ensures
    ∙ c.if-is_leaf.false) c.head-head.result.number c.head-head.ensures.1 c.requires.1.types)

pub uses::use_term-over_one-requires : goal.uses::use_term-over_one-requires
uses::use_term-over_one-requires t c =
    over_one_asks _ _ _ _ _ _ _ _ _ _ _ c.requires.0.stands (ap is_leaf (sym c.head-head.ensures.0) ∙ sym c.is_leaf.ensures ∙ c.if-is_leaf.false) (uses_as
    c.from.ensures c.use_term-one.ensures) c.requires.1

pub uses::use_term-returns-then-has_one_operand : goal.uses::use_term-returns-then-has_one_operand
uses::use_term-returns-then-has_one_operand t c I Γ Δ e S =
    used_over_one c.args.source.types.now c.args.source.plan.now I Γ Δ c.args.state c.args.made.now.references e _ _ _ _ c.head-head.result.kind
    c.node_number-held.result c.use_term-one.result _ c.args.term.kinds.now c.args.term.numbers.now c.args.term.column.now c.head-head.result.number
    c.place_at.result S c.head-head.ensures.0 c.head-head.ensures.1 c.place_at.ensures (sym c.is_leaf.ensures ∙ c.if-is_leaf.false)
    (sym c.has_one_operand.ensures ∙ c.if-has_one_operand.true) c.node_number-held.ensures (omega (arith, c.node_number-held.type_inv))
    (over_one_asks _ _ _ _ _ _ _ _ _ _ _ c.requires.0.stands (ap is_leaf (sym c.head-head.ensures.0) ∙ sym c.is_leaf.ensures ∙ c.if-is_leaf.false) (uses_as
    c.from.ensures c.use_term-one.ensures) c.requires.1).1 (first_used _ _ _ _ _ _ _ _ _ _ _ S (ap is_leaf (sym c.head-head.ensures.0) ∙ sym c.is_leaf.ensures
    ∙ c.if-is_leaf.false) (uses_as c.from.ensures c.use_term-one.ensures)) c.over_one.ensures

pub uses::use_term-overflow_add-one : goal.uses::use_term-overflow_add-one
uses::use_term-overflow_add-one t c =
    omega (
      arith,
      (first_reach _ _ _ _ _ _ _ _ _ _ _ c.requires.0.stands (ap is_leaf (sym c.head-head.ensures.0) ∙ sym c.is_leaf.ensures ∙ c.if-is_leaf.false)
          (uses_as c.from.ensures c.use_term-one.ensures)).0,
      sizes c.requires.0 c.requires.1,
    )

pub uses::use_term-from-requires-2 : goal.uses::use_term-from-requires-2
uses::use_term-from-requires-2 t c =
    from_asks _ _ _ _ _ (sizes c.requires.0 c.requires.1) (first_reach _ _ _ _ _ _ _ _ _ _ _ c.requires.0.stands (ap is_leaf (sym c.head-head.ensures.0) ∙ sym
    c.is_leaf.ensures ∙ c.if-is_leaf.false) (uses_as c.from.ensures c.use_term-one.ensures)).0

pub uses::use_term-use_term-two-requires : goal.uses::use_term-use_term-two-requires
uses::use_term-use_term-two-requires t c = (
  omega (
    arith,
    (first_reach _ _ _ _ _ _ _ _ _ _ _ c.requires.0.stands (ap is_leaf (sym c.head-head.ensures.0) ∙ sym c.is_leaf.ensures ∙ c.if-is_leaf.false) (uses_as
        c.from.ensures c.use_term-one.ensures)).0,
    sizes c.requires.0 c.requires.1,
    part_length (1 + c.use_term-one.result.rows) c.args.term.kinds.now,
    ap length c.from-2.ensures.0,
  ),
  use_as c.from-2.ensures (second_asks _ _ _ _ _ _ _ _ _ _ _ c.requires.0.stands (ap is_leaf (sym c.head-head.ensures.0) ∙ sym c.is_leaf.ensures
      ∙ c.if-is_leaf.false) (uses_as c.from.ensures c.use_term-one.ensures) (ap is_map (sym c.head-head.ensures.0) ∙ sym c.is_map.ensures ∙ c.if-is_map.false)
      (λ x. c.if-head-eq-WORD_REDSEQ.false (c.head-head.ensures.0 ∙ x)) (ap has_one_operand (sym c.head-head.ensures.0) ∙ sym c.has_one_operand.ensures
      ∙ c.if-has_one_operand.false) c.after_use-next.ensures c.requires.1),
)

pub uses::use_term-over_two-requires : goal.uses::use_term-over_two-requires
uses::use_term-over_two-requires t c =
    over_two_asks _ _ _ _ _ _ _ _ _ _ _ c.requires.0.stands (ap is_leaf (sym c.head-head.ensures.0) ∙ sym c.is_leaf.ensures ∙ c.if-is_leaf.false) (uses_as
    c.from.ensures c.use_term-one.ensures) (ap is_map (sym c.head-head.ensures.0) ∙ sym c.is_map.ensures ∙ c.if-is_map.false)
    (λ x. c.if-head-eq-WORD_REDSEQ.false (c.head-head.ensures.0 ∙ x)) (ap has_one_operand (sym c.head-head.ensures.0) ∙ sym c.has_one_operand.ensures
    ∙ c.if-has_one_operand.false)
    c.after_use-next.ensures (uses_as c.from-2.ensures c.use_term-two.ensures) c.requires.1

pub uses::use_term-returns : goal.uses::use_term-returns
uses::use_term-returns t c I Γ Δ e S =
    used_over_two c.args.source.types.now c.args.source.plan.now I Γ Δ c.args.state c.args.made.now.references e _ _ _ _ _ _ c.head-head.result.kind c.use_term-one.result
    c.after_use-next.result c.use_term-two.result _ c.args.term.kinds.now c.args.term.numbers.now c.args.term.column.now S c.head-head.ensures.0
    (sym c.is_leaf.ensures ∙ c.if-is_leaf.false) (sym c.is_map.ensures ∙ c.if-is_map.false) c.if-head-eq-WORD_REDSEQ.false
    (sym c.has_one_operand.ensures ∙ c.if-has_one_operand.false)
    (over_two_asks _ _ _ _ _ _ _ _ _ _ _ c.requires.0.stands (ap is_leaf (sym c.head-head.ensures.0) ∙ sym c.is_leaf.ensures ∙ c.if-is_leaf.false) (uses_as
    c.from.ensures c.use_term-one.ensures) (ap is_map (sym c.head-head.ensures.0) ∙ sym c.is_map.ensures ∙ c.if-is_map.false)
    (λ x. c.if-head-eq-WORD_REDSEQ.false (c.head-head.ensures.0 ∙ x)) (ap has_one_operand (sym c.head-head.ensures.0) ∙ sym c.has_one_operand.ensures
    ∙ c.if-has_one_operand.false) c.after_use-next.ensures (uses_as c.from-2.ensures c.use_term-two.ensures) c.requires.1).2
    (first_used _ _ _ _ _ _ _ _ _ _ _ S (ap is_leaf (sym c.head-head.ensures.0) ∙ sym c.is_leaf.ensures ∙ c.if-is_leaf.false) (uses_as c.from.ensures
    c.use_term-one.ensures)) c.after_use-next.ensures
    (second_used _ _ _ _ _ _ _ _ _ _ _ S (ap is_leaf (sym c.head-head.ensures.0) ∙ sym c.is_leaf.ensures ∙ c.if-is_leaf.false) (uses_as c.from.ensures
    c.use_term-one.ensures) (ap is_map (sym c.head-head.ensures.0) ∙ sym c.is_map.ensures ∙ c.if-is_map.false)
    (λ x. c.if-head-eq-WORD_REDSEQ.false (c.head-head.ensures.0 ∙ x)) (ap has_one_operand (sym c.head-head.ensures.0) ∙ sym c.has_one_operand.ensures
    ∙ c.if-has_one_operand.false) c.after_use-next.ensures (uses_as c.from-2.ensures c.use_term-two.ensures)) c.over_two.ensures

-- `write_map`: its array is used, then its body is written in each round.

pub writes::write_map-head-head-requires : goal.writes::write_map-head-head-requires
writes::write_map-head-head-requires t c =
    from_asks _ _ _ _ _ (sizes c.requires.2.0 c.requires.2.1) (sizes c.requires.2.0 c.requires.2.1).0

pub writes::write_map-from-requires : goal.writes::write_map-from-requires
writes::write_map-from-requires t c =
    from_asks _ _ _ _ _ (sizes c.requires.2.0 c.requires.2.1) (sizes c.requires.2.0 c.requires.2.1).0

pub writes::write_map-use_term-used-requires : goal.writes::write_map-use_term-used-requires
writes::write_map-use_term-used-requires t c = (
  omega (arith, sizes c.requires.2.0 c.requires.2.1, part_length 1 c.args.term.kinds.now, ap length c.from.ensures.0),
  use_as c.from.ensures (array_of_map_asks _ _ _ _ _ _ _ _ _ _ _ c.requires.2.0.stands (map_past _ _ _ _ _ _ _ _ _ _ _ c.requires.2.0.stands c.requires.0)
      c.requires.2.1),
)

pub writes::write_map-enter_map-inside-requires : goal.writes::write_map-enter_map-inside-requires
writes::write_map-enter_map-inside-requires t c =
    rw c.head-head.ensures.2 (enter_map_asks _ _ _ _ _ _ _ _ _ _ _ c.requires.2.0.stands (map_past _ _ _ _ _ _ _ _ _ _ _ c.requires.2.0.stands c.requires.0) (uses_as
    c.from.ensures c.use_term-used.ensures) c.requires.0 c.args.target c.requires.1 c.requires.2.1)

pub writes::write_map-overflow_add-at : goal.writes::write_map-overflow_add-at
writes::write_map-overflow_add-at t c =
    omega (
      arith,
      map_reach _ _ _ _ _ _ _ _ _ _ _ c.requires.2.0.stands (map_past _ _ _ _ _ _ _ _ _ _ _ c.requires.2.0.stands c.requires.0) (uses_as c.from.ensures
          c.use_term-used.ensures) c.requires.0 c.args.target c.requires.1,
      sizes c.requires.2.0 c.requires.2.1,
    )

pub writes::write_map-from-requires-2 : goal.writes::write_map-from-requires-2
writes::write_map-from-requires-2 t c =
    from_asks _ _ _ _ _ (sizes c.requires.2.0 c.requires.2.1) (omega (
      arith,
      map_reach _ _ _ _ _ _ _ _ _ _ _ c.requires.2.0.stands (map_past _ _ _ _ _ _ _ _ _ _ _
          c.requires.2.0.stands c.requires.0) (uses_as c.from.ensures c.use_term-used.ensures) c.requires.0 c.args.target c.requires.1,
    ))

pub writes::write_map-write_term-body-requires : goal.writes::write_map-write_term-body-requires
writes::write_map-write_term-body-requires t c =
    let h = enter_map_asks _ _ _ _ _ _ _ _ _ _ _ c.requires.2.0.stands (map_past _ _ _ _ _ _ _ _ _ _ _ c.requires.2.0.stands c.requires.0) (uses_as c.from.ensures
    c.use_term-used.ensures) c.requires.0 c.args.target c.requires.1 c.requires.2.1 in
    let b = body_asks _ _ _ _ _ _ _ _ _ _ _ c.requires.2.0.stands (map_past _ _ _ _ _ _ _ _ _ _ _ c.requires.2.0.stands c.requires.0) (uses_as c.from.ensures
    c.use_term-used.ensures) c.requires.0 c.args.target c.requires.1 c.enter_map-inside.ensures.made h.4 h.5 h.6 c.requires.2.1 in (
      omega (
        arith,
        map_reach _ _ _ _ _ _ _ _ _ _ _ c.requires.2.0.stands (map_past _ _ _ _ _ _ _ _ _ _ _ c.requires.2.0.stands c.requires.0) (uses_as c.from.ensures
            c.use_term-used.ensures) c.requires.0 c.args.target c.requires.1,
        sizes c.requires.2.0 c.requires.2.1,
        part_length (1 + c.use_term-used.result.rows) c.args.term.kinds.now,
        ap length c.from-2.ensures.0,
      ),
      (b.0, write_as c.from-2.ensures b.1),
    )

pub writes::write_map-later-requires : goal.writes::write_map-later-requires
writes::write_map-later-requires t c =
    let h = enter_map_asks _ _ _ _ _ _ _ _ _ _ _ c.requires.2.0.stands (map_past _ _ _ _ _ _ _ _ _ _ _ c.requires.2.0.stands c.requires.0) (uses_as c.from.ensures
    c.use_term-used.ensures) c.requires.0 c.args.target c.requires.1 c.requires.2.1 in
    map_later_asks _ _ _ _ _ _ _ _ _ _ _ c.requires.2.0.stands (map_past _ _ _ _ _ _ _ _ _ _ _ c.requires.2.0.stands c.requires.0) (uses_as c.from.ensures
    c.use_term-used.ensures) c.requires.0 c.args.target c.requires.1 c.enter_map-inside.ensures.made h.4 h.5 h.6 c.requires.2.1
    (writes_as c.from-2.ensures c.write_term-body.ensures)

pub writes::write_map-returns : goal.writes::write_map-returns
writes::write_map-returns t c I Γ Δ e S =
    let h = enter_map_asks _ _ _ _ _ _ _ _ _ _ _ c.requires.2.0.stands (map_past _ _ _ _ _ _ _ _ _ _ _ c.requires.2.0.stands c.requires.0) (uses_as c.from.ensures
    c.use_term-used.ensures) c.requires.0 c.args.target c.requires.1 c.requires.2.1 in
    written_map c.args.source.types.now c.args.source.plan.now I Γ Δ c.args.state c.args.made.now.references c.args.target c.requires.1 e c.args.term.kinds.now
    c.args.term.numbers.now c.args.term.column.now S
    c.head-head.result.kind c.head-head.ensures.0 _ _ _ _ c.use_term-used.result c.enter_map-inside.result
    (first_used _ _ _ _ _ _ _ _ _ _ _ S (map_past _ _ _ _ _ _ _ _ _ _ _ c.requires.2.0.stands c.requires.0) (uses_as c.from.ensures c.use_term-used.ensures))
    c.enter_map-inside.ensures.made h.4 h.5
    (ap is_map c.head-head.ensures.0 ∙ c.requires.0) _ _ _ c.head-head.result.place c.write_term-body.result _ c.head-head.ensures.2
    c.enter_map-inside.ensures.rows
    (writes_as c.from-2.ensures c.write_term-body.ensures I _ _ (second_operand e)
    (body_here _ _ _ _ _ _ _ _ _ _ _ S (map_past _ _ _ _ _ _ _ _ _ _ _ c.requires.2.0.stands c.requires.0) (uses_as c.from.ensures c.use_term-used.ensures)
    c.requires.0 c.args.target c.requires.1 c.enter_map-inside.ensures.made h.4 h.5 h.6))
    c.later.ensures

-- `write_term`: by the word of the first row.

pub writes::write_term-head-head-requires : goal.writes::write_term-head-head-requires
writes::write_term-head-head-requires t c =
    from_asks _ _ _ _ _ (sizes c.requires.1.0 c.requires.1.1) (sizes c.requires.1.0 c.requires.1.1).0

pub writes::write_term-write_term-one-requires : goal.writes::write_term-write_term-one-requires
writes::write_term-write_term-one-requires t c =
    let p = part_asks _ _ _ _ _ _ _ _ _ _ _ c.requires.1.0.stands (paired_node _ _ _ _ _ _ _ _ _ _ _ c.requires.1.0.stands (ap is_paired (sym c.head-head.ensures.0)
    ∙ sym c.is_paired.ensures ∙ c.if-is_paired.true)).0 c.args.target c.requires.0 c.into_first-first.ensures.made c.requires.1.1 (paired_node _ _ _ _ _ _ _ _ _ _ _
    c.requires.1.0.stands (ap is_paired (sym c.head-head.ensures.0) ∙ sym c.is_paired.ensures ∙ c.if-is_paired.true)).1 in (
      omega (arith, sizes c.requires.1.0 c.requires.1.1, part_length 1 c.args.term.kinds.now, ap length c.from.ensures.0),
      (p.0, write_as c.from.ensures p.1),
    )

pub writes::write_term-overflow_add-at : goal.writes::write_term-overflow_add-at
writes::write_term-overflow_add-at t c =
    omega (
      arith,
      paired_reach _ _ _ _ _ _ _ _ _ _ _ c.requires.1.0.stands (paired_node _ _ _ _ _ _ _ _ _ _ _ c.requires.1.0.stands (ap is_paired (sym c.head-head.ensures.0)
          ∙ sym c.is_paired.ensures ∙ c.if-is_paired.true)).0 c.args.target c.requires.0 c.into_first-first.ensures.made
          (writes_as c.from.ensures c.write_term-one.ensures) (ap is_paired (sym c.head-head.ensures.0) ∙ sym c.is_paired.ensures ∙ c.if-is_paired.true),
      sizes c.requires.1.0 c.requires.1.1,
    )

pub writes::write_term-into_second-second-requires : goal.writes::write_term-into_second-second-requires
writes::write_term-into_second-second-requires t c =
    into_second_asks _ _ _ _ _ _ _ _ _ _ _ c.requires.1.0.stands (paired_node _ _ _ _ _ _ _ _ _ _ _ c.requires.1.0.stands (ap is_paired (sym c.head-head.ensures.0)
    ∙ sym c.is_paired.ensures ∙ c.if-is_paired.true)).0 c.args.target c.requires.0 c.into_first-first.ensures.made
    (writes_as c.from.ensures c.write_term-one.ensures) (ap is_paired (sym c.head-head.ensures.0) ∙ sym c.is_paired.ensures ∙ c.if-is_paired.true) c.requires.1.1

pub writes::write_term-from-requires-then-is_paired : goal.writes::write_term-from-requires-then-is_paired
writes::write_term-from-requires-then-is_paired t c =
    from_asks _ _ _ _ _ (sizes c.requires.1.0 c.requires.1.1) (omega (
      arith,
      paired_reach _ _ _ _ _ _ _ _ _ _ _ c.requires.1.0.stands (paired_node _ _ _ _ _ _ _ _ _ _ _ c.requires.1.0.stands (ap is_paired (sym c.head-head.ensures.0)
          ∙ sym c.is_paired.ensures ∙ c.if-is_paired.true)).0 c.args.target c.requires.0 c.into_first-first.ensures.made
          (writes_as c.from.ensures c.write_term-one.ensures) (ap is_paired (sym c.head-head.ensures.0) ∙ sym c.is_paired.ensures ∙ c.if-is_paired.true),
    ))

pub writes::write_term-write_term-two-requires : goal.writes::write_term-write_term-two-requires
writes::write_term-write_term-two-requires t c =
    let p = second_part_asks _ _ _ _ _ _ _ _ _ _ _ c.requires.1.0.stands (paired_node _ _ _ _ _ _ _ _ _ _ _ c.requires.1.0.stands (ap is_paired (sym
    c.head-head.ensures.0) ∙ sym c.is_paired.ensures ∙ c.if-is_paired.true)).0 c.args.target c.requires.0 c.into_first-first.ensures.made
    (writes_as c.from.ensures c.write_term-one.ensures) (ap is_paired (sym c.head-head.ensures.0) ∙ sym c.is_paired.ensures ∙ c.if-is_paired.true)
    c.into_second-second.ensures c.requires.1.1 in (
      omega (
        arith,
        paired_reach _ _ _ _ _ _ _ _ _ _ _ c.requires.1.0.stands (paired_node _ _ _ _ _ _ _ _ _ _ _ c.requires.1.0.stands (ap is_paired (sym c.head-head.ensures.0)
            ∙ sym c.is_paired.ensures ∙ c.if-is_paired.true)).0 c.args.target c.requires.0 c.into_first-first.ensures.made
            (writes_as c.from.ensures c.write_term-one.ensures) (ap is_paired (sym c.head-head.ensures.0) ∙ sym c.is_paired.ensures ∙ c.if-is_paired.true),
        sizes c.requires.1.0 c.requires.1.1,
        part_length (1 + c.write_term-one.result.rows) c.args.term.kinds.now,
        ap length c.from-then-is_paired.ensures.0,
      ),
      (p.0, write_as c.from-then-is_paired.ensures p.1),
    )

pub writes::write_term-later-requires : goal.writes::write_term-later-requires
writes::write_term-later-requires t c =
    paired_later_asks _ _ _ _ _ _ _ _ _ _ _ c.requires.1.0.stands (paired_node _ _ _ _ _ _ _ _ _ _ _ c.requires.1.0.stands (ap is_paired (sym c.head-head.ensures.0)
    ∙ sym c.is_paired.ensures ∙ c.if-is_paired.true)).0 c.args.target c.requires.0 c.into_first-first.ensures.made
    (writes_as c.from.ensures c.write_term-one.ensures) (ap is_paired (sym c.head-head.ensures.0) ∙ sym c.is_paired.ensures ∙ c.if-is_paired.true)
    c.into_second-second.ensures c.requires.1.1
    (writes_as c.from-then-is_paired.ensures c.write_term-two.ensures)

pub writes::write_term-returns-then-is_paired : goal.writes::write_term-returns-then-is_paired
writes::write_term-returns-then-is_paired t c I Γ Δ e S =
    written_paired c.args.source.types.now c.args.source.plan.now I Γ Δ c.args.state c.args.made.now.references c.args.target c.requires.0 e c.args.term.kinds.now
    c.args.term.numbers.now c.args.term.column.now S
    c.head-head.result.kind c.head-head.ensures.0 _ _ _ _ _ _ _ _ c.into_first-first.result c.write_term-one.result c.into_second-second.result
    c.write_term-two.result _ (sym c.is_paired.ensures ∙ c.if-is_paired.true) (into_second_asks _ _ _ _ _ _ _ _ _ _ _ c.requires.1.0.stands
    (paired_node _ _ _ _ _ _ _ _ _ _ _ c.requires.1.0.stands (ap is_paired (sym c.head-head.ensures.0) ∙ sym c.is_paired.ensures ∙ c.if-is_paired.true)).0
    c.args.target c.requires.0 c.into_first-first.ensures.made
    (writes_as c.from.ensures c.write_term-one.ensures) (ap is_paired (sym c.head-head.ensures.0) ∙ sym c.is_paired.ensures ∙ c.if-is_paired.true) c.requires.1.1).1
    c.into_first-first.ensures.made c.into_first-first.ensures.rows (part_written _ _ _ _ _ _ _ _ _ _ _ S (paired_node _ _ _ _ _ _ _ _ _ _ _ c.requires.1.0.stands
    (ap is_paired (sym c.head-head.ensures.0) ∙ sym c.is_paired.ensures ∙ c.if-is_paired.true)).0 c.args.target c.requires.0 c.into_first-first.ensures.made
    (writes_as c.from.ensures c.write_term-one.ensures))
    c.into_second-second.ensures
    (writes_as c.from-then-is_paired.ensures c.write_term-two.ensures I Γ Δ (second_operand e)
    (second_part_here _ _ _ _ _ _ _ _ _ _ _ S (paired_node _ _ _ _ _ _ _ _ _ _ _ c.requires.1.0.stands (ap is_paired (sym c.head-head.ensures.0) ∙ sym
    c.is_paired.ensures ∙ c.if-is_paired.true)).0 c.args.target c.requires.0 c.into_first-first.ensures.made
    (writes_as c.from.ensures c.write_term-one.ensures) (ap is_paired (sym c.head-head.ensures.0) ∙ sym c.is_paired.ensures ∙ c.if-is_paired.true)
    c.into_second-second.ensures))
    c.later.ensures

pub writes::write_term-place_at-requires : goal.writes::write_term-place_at-requires
writes::write_term-place_at-requires t c =
    omega (
      arith,
      two_rows _ _ _ _ _ _ _ _ _ _ _ c.requires.1.0.stands (regrouped_node _ _ _ _ _ _ _ _ _ _ _ c.requires.1.0.stands (ap is_regrouped (sym
          c.head-head.ensures.0) ∙ sym c.is_regrouped.ensures ∙ c.if-is_regrouped.true)).0,
      sizes c.requires.1.0 c.requires.1.1,
    )

pub writes::write_term-node_number-held-requires : goal.writes::write_term-node_number-held-requires
writes::write_term-node_number-held-requires t c =
    rw c.place_at.ensures (number_asks _ _ _ _ _ _ _ _ _ _ _ c.requires.1.0.stands (regrouped_node _ _ _ _ _ _ _ _ _ _ _ c.requires.1.0.stands (ap is_regrouped (sym
    c.head-head.ensures.0) ∙ sym c.is_regrouped.ensures ∙ c.if-is_regrouped.true)).0 c.head-head.result.number c.head-head.ensures.1 c.requires.1.1.types)

pub writes::write_term-write_term-one-requires-then-is_regrouped : goal.writes::write_term-write_term-one-requires-then-is_regrouped
writes::write_term-write_term-one-requires-then-is_regrouped t c =
    let p = part_asks _ _ _ _ _ _ _ _ _ _ _ c.requires.1.0.stands (regrouped_node _ _ _ _ _ _ _ _ _ _ _ c.requires.1.0.stands (ap is_regrouped (sym
    c.head-head.ensures.0) ∙ sym c.is_regrouped.ensures ∙ c.if-is_regrouped.true)).0 c.args.target c.requires.0 c.into_part-inside.ensures c.requires.1.1
    (regrouped_node _ _ _ _ _ _ _ _ _ _ _ c.requires.1.0.stands (ap is_regrouped (sym c.head-head.ensures.0) ∙ sym c.is_regrouped.ensures
    ∙ c.if-is_regrouped.true)).1 in (
      omega (arith, sizes c.requires.1.0 c.requires.1.1, part_length 1 c.args.term.kinds.now, ap length c.from-then-is_regrouped.ensures.0),
      (p.0, write_as c.from-then-is_regrouped.ensures p.1),
    )

pub writes::write_term-later-requires-then-is_regrouped : goal.writes::write_term-later-requires-then-is_regrouped
writes::write_term-later-requires-then-is_regrouped t c =
    part_later_asks _ _ _ _ _ _ _ _ _ _ _ c.requires.1.0.stands (regrouped_node _ _ _ _ _ _ _ _ _ _ _ c.requires.1.0.stands (ap is_regrouped (sym
    c.head-head.ensures.0) ∙ sym c.is_regrouped.ensures ∙ c.if-is_regrouped.true)).0 c.args.target c.requires.0 c.into_part-inside.ensures
    (writes_as c.from-then-is_regrouped.ensures c.write_term-one-then-is_regrouped.ensures) c.requires.1.1

pub writes::write_term-returns-then-is_regrouped : goal.writes::write_term-returns-then-is_regrouped
writes::write_term-returns-then-is_regrouped t c I Γ Δ e S =
    written_regrouped c.args.source.types.now c.args.source.plan.now I Γ Δ c.args.state c.args.made.now.references c.args.target c.requires.0 e c.args.term.kinds.now
    c.args.term.numbers.now c.args.term.column.now S
    c.head-head.result.kind c.head-head.ensures.0 _ _ _ _ c.head-head.result.number c.place_at.result c.node_number-held.result
    c.into_part-inside.result c.write_term-one-then-is_regrouped.result _ (sym c.is_regrouped.ensures ∙ c.if-is_regrouped.true)
    c.head-head.ensures.1 c.place_at.ensures (ap is_leaf c.head-head.ensures.0 ∙ (regrouped_node _ _ _ _ _ _ _ _ _ _ _ c.requires.1.0.stands (ap is_regrouped (sym
    c.head-head.ensures.0) ∙ sym c.is_regrouped.ensures ∙ c.if-is_regrouped.true)).0) c.node_number-held.ensures
    (omega (arith, c.node_number-held.type_inv)) (into_asks _ _ _ _ _ _ _ _ _ _ _ c.requires.1.0.stands (regrouped_node _ _ _ _ _ _ _ _ _ _ _ c.requires.1.0.stands
    (ap is_regrouped (sym c.head-head.ensures.0) ∙ sym c.is_regrouped.ensures ∙ c.if-is_regrouped.true)).0 c.args.target c.requires.0 c.requires.1.1).1
    (into_same c.regrouped.ensures c.into_part-inside.ensures)
    (part_written _ _ _ _ _ _ _ _ _ _ _ S (regrouped_node _ _ _ _ _ _ _ _ _ _ _ c.requires.1.0.stands (ap is_regrouped (sym c.head-head.ensures.0) ∙ sym
    c.is_regrouped.ensures ∙ c.if-is_regrouped.true)).0 c.args.target c.requires.0 c.into_part-inside.ensures
    (writes_as c.from-then-is_regrouped.ensures c.write_term-one-then-is_regrouped.ensures)) c.later-then-is_regrouped.ensures

pub writes::write_term-use_term-used-requires : goal.writes::write_term-use_term-used-requires
writes::write_term-use_term-used-requires t c =
    (omega arith, used_asks _ _ _ _ _ _ _ _ _ _ _ c.requires.1.0.stands (ap is_map (sym c.head-head.ensures.0) ∙ sym c.is_map.ensures ∙ c.if-is_map.false) c.requires.1.1)

pub writes::write_term-put_assign-requires : goal.writes::write_term-put_assign-requires
writes::write_term-put_assign-requires t c =
    rw c.head-head.ensures.2 (assign_asks _ _ _ _ _ _ _ _ _ _ _ c.requires.1.0.stands (ap is_map (sym c.head-head.ensures.0) ∙ sym c.is_map.ensures
    ∙ c.if-is_map.false) c.requires.1.1 c.args.target c.requires.0 c.use_term-used.ensures)

pub writes::write_term-returns : goal.writes::write_term-returns
writes::write_term-returns t c I Γ Δ e S =
    written_assigned c.args.source.types.now c.args.source.plan.now I Γ Δ c.args.state c.args.made.now.references c.args.target c.requires.0 e c.args.term.kinds.now
    c.args.term.numbers.now c.args.term.column.now S
    c.head-head.result.kind c.head-head.ensures.0 _ _ _ _ _ c.head-head.result.place c.use_term-used.result _ c.head-head.ensures.2
    (sym c.is_map.ensures ∙ c.if-is_map.false) (sym c.is_paired.ensures ∙ c.if-is_paired.false)
    (sym c.is_regrouped.ensures ∙ c.if-is_regrouped.false) (c.use_term-used.ensures I Γ Δ e S) c.put_assign.ensures.rows
    c.put_assign.ensures.grown refl refl
