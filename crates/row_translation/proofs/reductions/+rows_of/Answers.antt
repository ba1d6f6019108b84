use mathlib.Core.Path.{sym, ◌∙◌}
use Rattle.syntax.proofs.Front.{part_length}
use Rattle.row_translation.proofs.RowCounts.{rows_begin, leaf_counts, some_first, first_within, one_counts, some_second, second_within}
use Rattle.row_translation.proofs.RowCounts.{two_counts, some_third, third_within, three_counts}
use native.Mathlib.Omega.{arith}
use Prim.Native.Nat.{◌+◌}
use Rattle.row_translation.proofs.reductions.+rows_of.Goals as goal

pub bounds-kinds-0 : goal.bounds-kinds-0
bounds-kinds-0 t c =
    omega (arith, rows_begin c.args.kinds.now c.requires.1)

pub returns-then-is_leaf : goal.returns-then-is_leaf
returns-then-is_leaf t c =
    leaf_counts c.args.kinds.now (sym c.is_leaf.ensures ∙ c.if-is_leaf.true)

pub slice_bounds-rows_of-count : goal.slice_bounds-rows_of-count
slice_bounds-rows_of-count t c =
    omega (arith, rows_begin c.args.kinds.now c.requires.1)

pub slice_bounds-rows_of-start : goal.slice_bounds-rows_of-start
slice_bounds-rows_of-start t c =
    omega (arith, rows_begin c.args.kinds.now c.requires.1)

pub slice_bounds-rows_of-end : goal.slice_bounds-rows_of-end
slice_bounds-rows_of-end t c =
    omega (arith, rows_begin c.args.kinds.now c.requires.1)

pub rows_of-one-requires : goal.rows_of-one-requires
rows_of-one-requires t c =
    let n = part_length 1 c.args.kinds.now in (
      omega (arith, rows_begin c.args.kinds.now c.requires.1, n),
      (omega (arith, n, c.requires.0), some_first c.args.kinds.now c.requires.1 (sym c.is_leaf.ensures ∙ c.if-is_leaf.false)),
    )

pub overflow_add-one : goal.overflow_add-one
overflow_add-one t c =
    omega (arith, first_within c.args.kinds.now c.requires.1 (sym c.is_leaf.ensures ∙ c.if-is_leaf.false) c.rows_of-one.result c.rows_of-one.ensures, c.requires.0)

pub returns-then-has_one_operand : goal.returns-then-has_one_operand
returns-then-has_one_operand t c =
    one_counts c.args.kinds.now c.requires.1 (sym c.is_leaf.ensures ∙ c.if-is_leaf.false) c.rows_of-one.result c.rows_of-one.ensures
    (sym c.has_one_operand.ensures ∙ c.if-has_one_operand.true)

pub slice_bounds-rows_of-count-2 : goal.slice_bounds-rows_of-count-2
slice_bounds-rows_of-count-2 t c =
    omega (arith, first_within c.args.kinds.now c.requires.1 (sym c.is_leaf.ensures ∙ c.if-is_leaf.false) c.rows_of-one.result c.rows_of-one.ensures, c.requires.0)

pub slice_bounds-rows_of-start-2 : goal.slice_bounds-rows_of-start-2
slice_bounds-rows_of-start-2 t c =
    omega (arith, first_within c.args.kinds.now c.requires.1 (sym c.is_leaf.ensures ∙ c.if-is_leaf.false) c.rows_of-one.result c.rows_of-one.ensures, c.requires.0)

pub slice_bounds-rows_of-end-2 : goal.slice_bounds-rows_of-end-2
slice_bounds-rows_of-end-2 t c =
    omega (arith, first_within c.args.kinds.now c.requires.1 (sym c.is_leaf.ensures ∙ c.if-is_leaf.false) c.rows_of-one.result c.rows_of-one.ensures, c.requires.0)

pub rows_of-requires : goal.rows_of-requires
rows_of-requires t c =
    let n = part_length (1 + c.rows_of-one.result) c.args.kinds.now in (
      omega (arith, first_within c.args.kinds.now c.requires.1 (sym c.is_leaf.ensures ∙ c.if-is_leaf.false) c.rows_of-one.result c.rows_of-one.ensures, c.requires.0, n),
      (
        omega (arith, n, c.requires.0),
        some_second c.args.kinds.now c.requires.1 (sym c.is_leaf.ensures ∙ c.if-is_leaf.false) c.rows_of-one.result c.rows_of-one.ensures (sym c.has_one_operand.ensures ∙ c.if-has_one_operand.false),
      ),
    )

pub overflow_add-two : goal.overflow_add-two
overflow_add-two t c =
    omega (
      arith,
      second_within c.args.kinds.now c.requires.1 (sym c.is_leaf.ensures ∙ c.if-is_leaf.false) c.rows_of-one.result c.rows_of-one.ensures
          (sym c.has_one_operand.ensures ∙ c.if-has_one_operand.false) c.rows_of.result c.rows_of.ensures,
      c.requires.0,
    )

pub returns-then-kind-ne-WORD_REDSEQ : goal.returns-then-kind-ne-WORD_REDSEQ
returns-then-kind-ne-WORD_REDSEQ t c =
    two_counts c.args.kinds.now c.requires.1 (sym c.is_leaf.ensures ∙ c.if-is_leaf.false) c.rows_of-one.result c.rows_of-one.ensures (sym c.has_one_operand.ensures ∙ c.if-has_one_operand.false)
    c.rows_of.result c.rows_of.ensures c.if-kind-ne-WORD_REDSEQ.true

pub slice_bounds-rows_of-count-3 : goal.slice_bounds-rows_of-count-3
slice_bounds-rows_of-count-3 t c =
    omega (
      arith,
      second_within c.args.kinds.now c.requires.1 (sym c.is_leaf.ensures ∙ c.if-is_leaf.false) c.rows_of-one.result c.rows_of-one.ensures
          (sym c.has_one_operand.ensures ∙ c.if-has_one_operand.false) c.rows_of.result c.rows_of.ensures,
      c.requires.0,
    )

pub slice_bounds-rows_of-start-3 : goal.slice_bounds-rows_of-start-3
slice_bounds-rows_of-start-3 t c =
    omega (
      arith,
      second_within c.args.kinds.now c.requires.1 (sym c.is_leaf.ensures ∙ c.if-is_leaf.false) c.rows_of-one.result c.rows_of-one.ensures
          (sym c.has_one_operand.ensures ∙ c.if-has_one_operand.false) c.rows_of.result c.rows_of.ensures,
      c.requires.0,
    )

pub slice_bounds-rows_of-end-3 : goal.slice_bounds-rows_of-end-3
slice_bounds-rows_of-end-3 t c =
    omega (
      arith,
      second_within c.args.kinds.now c.requires.1 (sym c.is_leaf.ensures ∙ c.if-is_leaf.false) c.rows_of-one.result c.rows_of-one.ensures
          (sym c.has_one_operand.ensures ∙ c.if-has_one_operand.false) c.rows_of.result c.rows_of.ensures,
      c.requires.0,
    )

pub rows_of-requires-2 : goal.rows_of-requires-2
rows_of-requires-2 t c =
    let n = part_length (1 + c.rows_of-one.result + c.rows_of.result) c.args.kinds.now in (
      omega (
        arith,
        second_within c.args.kinds.now c.requires.1 (sym c.is_leaf.ensures ∙ c.if-is_leaf.false) c.rows_of-one.result c.rows_of-one.ensures
            (sym c.has_one_operand.ensures ∙ c.if-has_one_operand.false) c.rows_of.result c.rows_of.ensures,
        c.requires.0,
        n,
      ),
      (
        omega (arith, n, c.requires.0),
        some_third c.args.kinds.now c.requires.1 (sym c.is_leaf.ensures ∙ c.if-is_leaf.false) c.rows_of-one.result c.rows_of-one.ensures (sym c.has_one_operand.ensures ∙ c.if-has_one_operand.false)
            c.rows_of.result c.rows_of.ensures c.if-kind-ne-WORD_REDSEQ.false,
      ),
    )

pub overflow_add-result : goal.overflow_add-result
overflow_add-result t c =
    let h = third_within c.args.kinds.now c.requires.1 (sym c.is_leaf.ensures ∙ c.if-is_leaf.false) c.rows_of-one.result c.rows_of-one.ensures
    (sym c.has_one_operand.ensures ∙ c.if-has_one_operand.false)
    c.rows_of.result c.rows_of.ensures c.if-kind-ne-WORD_REDSEQ.false c.rows_of-2.result c.rows_of-2.ensures in
    omega (arith, h, c.requires.0)

pub returns : goal.returns
returns t c =
    three_counts c.args.kinds.now c.requires.1 (sym c.is_leaf.ensures ∙ c.if-is_leaf.false) c.rows_of-one.result c.rows_of-one.ensures (sym c.has_one_operand.ensures ∙ c.if-has_one_operand.false)
    c.rows_of.result c.rows_of.ensures c.if-kind-ne-WORD_REDSEQ.false c.rows_of-2.result c.rows_of-2.ensures
