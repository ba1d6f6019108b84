-- `type_of`, `type_second` and `type_body` meet their contracts: for every term whose rows stand in front, each row is asked after
-- its operands, and its type noted.
use Rattle.std.proofs.Common.{◌≡◌, sym, ◌∙◌, List, ◌∷◌, ℕ, suc, ◌+◌, ◌-◌, ◌*◌, ◌≤◌, ℤ, pos, length, get_or, arith}
use Rattle.std.proofs.lemmas.Result.{err_from_is_err_and}
use Rattle.meaning.specs.Types.{DataType, element}
use Rattle.meaning.specs.Terms.{Term}
use Rattle.syntax.specs.Standing.{first_operand, second_operand, third_operand}
use Rattle.syntax.proofs.Front.{part, part_length}
use Rattle.syntax.proofs.Numbers.{natural_of}
use Rattle.type_table.specs.Table.{type_at}
use Rattle.type_rules.specs.declared.scope.Scope.{Scope}
use Rattle.row_typing.specs.Terms.{Stands, Place, FirstTyped, SecondTyped}
use Rattle.row_typing.proofs.TermAnswers.{place_part, place_small}
use Rattle.row_typing.proofs.BodySteps as bodies
use Rattle.row_typing.proofs.SecondSteps as seconds
use Rattle.row_typing.proofs.TermSteps as steps
use Rattle.row_typing.proofs.terms.+type_body_type_of_type_second.Goals as goal

-- the rows in front: a term's, of which the first operand is to come, or its second, or its third
first_sizes : (ks : List ℕ) (ns : List ℤ) (T : List ℕ) (m : ℕ) (C : List ℕ) (row : ℕ) (s : Scope)
    → Place ks T m C row (2 * length ks) × ((I : List DataType) × (Γ : List DataType) × (e : Term) × Stands ks ns T m s I Γ e)
    → (1 ≤ length ks) × (length ks ≡ length ns) × (row + length ks ≤ 65536)
first_sizes ks ns T m C row s q = (
  steps.row_there ks ns T m C row s q.0 q.1.0 q.1.1 q.1.2 q.1.3,
  q.1.3.term.sizes,
  q.0.few,
)

second_sizes : (ks : List ℕ) (ns : List ℤ) (T : List ℕ) (m : ℕ) (C : List ℕ) (row : ℕ) (s : Scope) (p at : ℕ)
    → Place ks T m C row (2 * (suc (length ks) - at))
    × ((I : List DataType) × (Γ : List DataType) × (e : Term) × Stands ks ns T m s I Γ e × FirstTyped T m C row I Γ e p at)
    → (1 ≤ at) × (at ≤ length ks) × (length ks ≡ length ns) × (row + length ks ≤ 65536)
second_sizes ks ns T m C row s p at q =
    let h = seconds.at_within ks ns T m C row s p at q.0 q.1.0 q.1.1 q.1.2 q.1.3 q.1.4 in
    (h.0, h.1, q.1.3.term.sizes, q.0.few)

third_sizes : (ks : List ℕ) (ns : List ℤ) (T : List ℕ) (m : ℕ) (C : List ℕ) (row : ℕ) (s : Scope) (p p' at : ℕ)
    → Place ks T m C row (2 * (suc (length ks) - at))
    × ((I : List DataType) × (Γ : List DataType) × (e : Term) × Stands ks ns T m s I Γ e × SecondTyped T m C row I Γ e p p' at)
    → (1 ≤ at) × (at ≤ length ks) × (length ks ≡ length ns) × (row + length ks ≤ 65536)
third_sizes ks ns T m C row s p p' at q =
    let h = bodies.at_within ks ns T m C row s p p' at q.0 q.1.0 q.1.1 q.1.2 q.1.3 q.1.4 in
    (h.0, h.1, q.1.3.term.sizes, q.0.few)

pub type_of-bounds-kinds-0 : goal.type_of-bounds-kinds-0
type_of-bounds-kinds-0 t c =
    let a = c.args in omega (arith, first_sizes a.kinds.now a.numbers.now a.types.now a.len a.column.now a.row a.scope c.requires)

pub type_of-bounds-numbers-0 : goal.type_of-bounds-numbers-0
type_of-bounds-numbers-0 t c =
    let a = c.args in omega (arith, first_sizes a.kinds.now a.numbers.now a.types.now a.len a.column.now a.row a.scope c.requires)

pub type_of-leaf_place-place-requires : goal.type_of-leaf_place-place-requires
type_of-leaf_place-place-requires t c =
    let a = c.args in let q = c.requires in
    steps.leaf_ready a.kinds.now a.numbers.now a.types.now a.len a.column.now a.row a.scope q.0 q.1.0 q.1.1 q.1.2 q.1.3
    (sym c.is_leaf.ensures ∙ c.if-is_leaf.true) c.natural-number.result (natural_of (get_or a.numbers.now 0 (pos 0)) (record { sfits = c.natural-arg-1.given }) c.natural-number.ensures.0)

pub type_of-put_type-requires : goal.type_of-put_type-requires
type_of-put_type-requires t c =
    let a = c.args in let q = c.requires in (
      steps.row_inside a.kinds.now a.numbers.now a.types.now a.len a.column.now a.row a.scope q.0 q.1.0 q.1.1 q.1.2 q.1.3,
      steps.leaf_small a.kinds.now a.numbers.now a.types.now a.len a.column.now a.row a.scope q.0 q.1.0 q.1.1 q.1.2 q.1.3
          (sym c.is_leaf.ensures ∙ c.if-is_leaf.true) c.natural-number.result
          (natural_of (get_or a.numbers.now 0 (pos 0)) (record { sfits = c.natural-arg-1.given }) c.natural-number.ensures.0) c.leaf_place-place.result c.leaf_place-place.ensures,
    )

pub type_of-returns-then-is_leaf : goal.type_of-returns-then-is_leaf
type_of-returns-then-is_leaf t c =
    λ I Γ e S.
    let a = c.args in let q = c.requires in
    steps.leaf_row a.kinds.now a.numbers.now a.types.now a.len a.column.now a.row a.scope q.0 I Γ e S
    (sym c.is_leaf.ensures ∙ c.if-is_leaf.true) c.natural-number.result (natural_of (get_or a.numbers.now 0 (pos 0)) (record { sfits = c.natural-arg-1.given }) c.natural-number.ensures.0)
    c.leaf_place-place.result c.put_type.result c.put_type.new.column c.leaf_place-place.ensures c.put_type.ensures.0 c.put_type.ensures.1

pub type_of-slice_bounds-type_of-count : goal.type_of-slice_bounds-type_of-count
type_of-slice_bounds-type_of-count t c =
    let a = c.args in omega (arith, first_sizes a.kinds.now a.numbers.now a.types.now a.len a.column.now a.row a.scope c.requires)

pub type_of-slice_bounds-type_of-start : goal.type_of-slice_bounds-type_of-start
type_of-slice_bounds-type_of-start t c =
    let a = c.args in omega (arith, first_sizes a.kinds.now a.numbers.now a.types.now a.len a.column.now a.row a.scope c.requires)

pub type_of-slice_bounds-type_of-count-2 : goal.type_of-slice_bounds-type_of-count-2
type_of-slice_bounds-type_of-count-2 t c =
    let a = c.args in omega (arith, first_sizes a.kinds.now a.numbers.now a.types.now a.len a.column.now a.row a.scope c.requires)

pub type_of-slice_bounds-type_of-start-2 : goal.type_of-slice_bounds-type_of-start-2
type_of-slice_bounds-type_of-start-2 t c =
    let a = c.args in omega (arith, first_sizes a.kinds.now a.numbers.now a.types.now a.len a.column.now a.row a.scope c.requires)

pub type_of-type_of-requires : goal.type_of-type_of-requires
type_of-type_of-requires t c =
    let a = c.args in let q = c.requires in
    let there = (first_sizes a.kinds.now a.numbers.now a.types.now a.len a.column.now a.row a.scope q).0 in let size = part_length 1 a.kinds.now in (
      omega (arith, there, size),
      (
        place_part 1 (2 * length (part 1 a.kinds.now)) q.0 there (omega (arith, size)),
        (
          q.1.0,
          q.1.1,
          first_operand q.1.2,
          steps.operand_stands a.kinds.now a.numbers.now a.types.now a.len a.column.now a.row a.scope q.0 q.1.0 q.1.1
              q.1.2 q.1.3 (sym c.is_leaf.ensures ∙ c.if-is_leaf.false),
        ),
      ),
    )

pub type_of-returns-in_err-first : goal.type_of-returns-in_err-first
type_of-returns-in_err-first t c =
    λ I Γ e S.
    let a = c.args in let q = c.requires in
    let y = c.type_of in
    let p = err_from_is_err_and c.from_residual.result c.from_residual.ensures.1 in
    rw (p.1, p.2)
    (steps.operand_no a.kinds.now a.numbers.now a.types.now a.len a.column.now a.row a.scope q.0 I Γ e S (sym c.is_leaf.ensures ∙ c.if-is_leaf.false)
    y.new.types y.new.column y.result y.ensures c.in_err-first.field-0.0 c.in_err-first.was)

pub type_of-unary-answer-requires : goal.type_of-unary-answer-requires
type_of-unary-answer-requires t c =
    let a = c.args in let q = c.requires in
    let y = c.type_of in let w = c.in_ok-first.first in
    steps.unary_ready a.kinds.now a.numbers.now a.types.now a.len a.column.now a.row a.scope q.0 q.1.0 q.1.1 q.1.2 q.1.3 (sym c.is_leaf.ensures ∙ c.if-is_leaf.false)
    y.new.types y.new.column y.result y.ensures w.place w.rows w.len c.in_ok-first.was (sym c.has_one_operand.ensures ∙ c.if-has_one_operand.true) c.natural-number.result
    (natural_of (get_or a.numbers.now 0 (pos 0)) (record { sfits = c.natural-arg-1.given }) c.natural-number.ensures.0)

pub type_of-put_type-requires-then-has_one_operand : goal.type_of-put_type-requires-then-has_one_operand
type_of-put_type-requires-then-has_one_operand t c =
    let a = c.args in let q = c.requires in
    let y = c.type_of in let w = c.in_ok-first.first in
    let r = c.unary-answer in (
      omega (
        arith,
        steps.row_inside a.kinds.now a.numbers.now a.types.now a.len a.column.now a.row a.scope q.0 q.1.0 q.1.1 q.1.2 q.1.3,
        steps.column_kept a.kinds.now a.numbers.now a.types.now a.len a.column.now a.row a.scope q.0 q.1.0 q.1.1 q.1.2 q.1.3 (sym c.is_leaf.ensures ∙ c.if-is_leaf.false)
            y.new.types y.new.column y.result y.ensures w.place w.rows w.len c.in_ok-first.was,
      ),
      place_small _ _ _ _ _ _ r.result r.ensures,
    )

pub type_of-returns-then-has_one_operand : goal.type_of-returns-then-has_one_operand
type_of-returns-then-has_one_operand t c =
    λ I Γ e S.
    let a = c.args in let q = c.requires in
    let y = c.type_of in let w = c.in_ok-first.first in
    let u = c.unary-answer in let r = c.put_type-then-has_one_operand in
    steps.unary_row a.kinds.now a.numbers.now a.types.now a.len a.column.now a.row a.scope q.0 I Γ e S (sym c.is_leaf.ensures ∙ c.if-is_leaf.false)
    y.new.types y.new.column y.result y.ensures w.place w.rows w.len c.in_ok-first.was
    (sym c.has_one_operand.ensures ∙ c.if-has_one_operand.true) c.natural-number.result
    (natural_of (get_or a.numbers.now 0 (pos 0)) (record { sfits = c.natural-arg-1.given }) c.natural-number.ensures.0)
    u.new.types u.result r.result r.new.column u.ensures r.ensures.0 r.ensures.1

pub type_of-type_second-requires : goal.type_of-type_second-requires
type_of-type_second-requires t c =
    let a = c.args in let q = c.requires in
    let y = c.type_of in let w = c.in_ok-first.first in
    let m = sym c.has_one_operand.ensures ∙ c.if-has_one_operand.false in (
      omega arith,
      (
        steps.second_place a.kinds.now a.numbers.now a.types.now a.len a.column.now a.row a.scope q.0 q.1.0 q.1.1 q.1.2 q.1.3 (sym c.is_leaf.ensures ∙ c.if-is_leaf.false)
            y.new.types y.new.column y.result y.ensures w.place w.rows w.len c.in_ok-first.was m,
        (
          q.1.0,
          q.1.1,
          q.1.2,
          steps.still_stands a.kinds.now a.numbers.now a.types.now a.len a.column.now a.row a.scope q.0 q.1.0 q.1.1 q.1.2 q.1.3 (sym c.is_leaf.ensures ∙ c.if-is_leaf.false)
              y.new.types y.new.column y.result y.ensures w.place w.rows w.len c.in_ok-first.was m,
          steps.first_typed a.kinds.now a.numbers.now a.types.now a.len a.column.now a.row a.scope q.0 q.1.0 q.1.1 q.1.2 q.1.3 (sym c.is_leaf.ensures ∙ c.if-is_leaf.false)
              y.new.types y.new.column y.result y.ensures w.place w.rows w.len c.in_ok-first.was m,
        ),
      ),
    )

pub type_of-returns : goal.type_of-returns
type_of-returns t c =
    λ I Γ e S.
    let a = c.args in let q = c.requires in
    let y = c.type_of in let w = c.in_ok-first.first in
    let m = sym c.has_one_operand.ensures ∙ c.if-has_one_operand.false in let r = c.type_second in
    steps.second_row a.kinds.now a.numbers.now a.types.now a.len a.column.now a.row a.scope q.0 I Γ e S (sym c.is_leaf.ensures ∙ c.if-is_leaf.false)
    y.new.types y.new.column y.result y.ensures w.place w.rows w.len c.in_ok-first.was m
    r.new.types r.new.column r.result (r.ensures I Γ e
    (steps.still_stands a.kinds.now a.numbers.now a.types.now a.len a.column.now a.row a.scope q.0 I Γ e S (sym c.is_leaf.ensures ∙ c.if-is_leaf.false)
    y.new.types y.new.column y.result y.ensures w.place w.rows w.len c.in_ok-first.was m)
    (steps.first_typed a.kinds.now a.numbers.now a.types.now a.len a.column.now a.row a.scope q.0 I Γ e S (sym c.is_leaf.ensures ∙ c.if-is_leaf.false)
    y.new.types y.new.column y.result y.ensures w.place w.rows w.len c.in_ok-first.was m))

pub type_second-bounds-kinds-0 : goal.type_second-bounds-kinds-0
type_second-bounds-kinds-0 t c =
    let a = c.args in omega (arith, second_sizes a.kinds.now a.numbers.now a.types.now a.first.len a.column.now a.row a.scope a.first.place (1 + a.first.rows) c.requires)

pub type_second-second-requires : goal.type_second-second-requires
type_second-second-requires t c =
    let a = c.args in let q = c.requires in
    seconds.scope_ready a.kinds.now a.numbers.now a.types.now a.first.len a.column.now a.row a.scope a.first.place (1 + a.first.rows) q.0 q.1.0 q.1.1 q.1.2 q.1.3 q.1.4

pub type_second-returns-in_err-inner : goal.type_second-returns-in_err-inner
type_second-returns-in_err-inner t c =
    λ I Γ e S Q.
    let a = c.args in let q = c.requires in
    let p = err_from_is_err_and c.from_residual.result c.from_residual.ensures.1 in
    rw (p.1, p.2, c.in_err-inner.ensures.1) (seconds.closed_row a.kinds.now a.numbers.now a.types.now a.first.len a.column.now a.row a.scope a.first.place
    (1 + a.first.rows) q.0 I Γ e S Q c.in_err-inner.ensures.0)

pub type_second-slice_bounds-type_of-count : goal.type_second-slice_bounds-type_of-count
type_second-slice_bounds-type_of-count t c =
    let a = c.args in omega (arith, second_sizes a.kinds.now a.numbers.now a.types.now a.first.len a.column.now a.row a.scope a.first.place (1 + a.first.rows) c.requires)

pub type_second-slice_bounds-type_of-start : goal.type_second-slice_bounds-type_of-start
type_second-slice_bounds-type_of-start t c =
    let a = c.args in omega (arith, second_sizes a.kinds.now a.numbers.now a.types.now a.first.len a.column.now a.row a.scope a.first.place (1 + a.first.rows) c.requires)

pub type_second-offset_bounds-numbers-at : goal.type_second-offset_bounds-numbers-at
type_second-offset_bounds-numbers-at t c =
    let a = c.args in record { fits = omega (arith, second_sizes a.kinds.now a.numbers.now a.types.now a.first.len a.column.now a.row a.scope a.first.place (1 + a.first.rows) c.requires) }

pub type_second-slice_bounds-type_of-count-2 : goal.type_second-slice_bounds-type_of-count-2
type_second-slice_bounds-type_of-count-2 t c =
    let a = c.args in omega (arith, second_sizes a.kinds.now a.numbers.now a.types.now a.first.len a.column.now a.row a.scope a.first.place (1 + a.first.rows) c.requires)

pub type_second-slice_bounds-type_of-start-2 : goal.type_second-slice_bounds-type_of-start-2
type_second-slice_bounds-type_of-start-2 t c =
    let a = c.args in omega (arith, second_sizes a.kinds.now a.numbers.now a.types.now a.first.len a.column.now a.row a.scope a.first.place (1 + a.first.rows) c.requires)

pub type_second-overflow_add-row : goal.type_second-overflow_add-row
type_second-overflow_add-row t c =
    let a = c.args in record { fits = omega (arith, second_sizes a.kinds.now a.numbers.now a.types.now a.first.len a.column.now a.row a.scope a.first.place (1 + a.first.rows) c.requires) }

pub type_second-type_of-requires : goal.type_second-type_of-requires
type_second-type_of-requires t c =
    let a = c.args in let q = c.requires in (
      omega (arith, second_sizes a.kinds.now a.numbers.now a.types.now a.first.len a.column.now a.row a.scope a.first.place (1 + a.first.rows) q, part_length (1 + a.first.rows) a.kinds.now),
      (
        seconds.operand_place a.kinds.now a.numbers.now a.types.now a.first.len a.column.now a.row a.scope a.first.place (1 + a.first.rows) q.0 q.1.0 q.1.1 q.1.2 q.1.3 q.1.4
            c.in_ok-inner.inner c.in_ok-inner.ensures,
        (
          q.1.0,
          seconds.variables a.kinds.now a.numbers.now a.types.now a.first.len a.column.now a.row a.scope a.first.place (1 + a.first.rows) q.0 q.1.0 q.1.1 q.1.2 q.1.3 q.1.4
              c.in_ok-inner.inner c.in_ok-inner.ensures,
          second_operand q.1.2,
          seconds.operand_stands a.kinds.now a.numbers.now a.types.now a.first.len a.column.now a.row a.scope a.first.place (1 + a.first.rows) q.0 q.1.0 q.1.1 q.1.2 q.1.3 q.1.4
              c.in_ok-inner.inner c.in_ok-inner.ensures,
        ),
      ),
    )

pub type_second-returns-in_err-second : goal.type_second-returns-in_err-second
type_second-returns-in_err-second t c =
    λ I Γ e S Q.
    let a = c.args in let q = c.requires in
    let y = c.type_of in
    let p = err_from_is_err_and c.from_residual-in_err-second.result c.from_residual-in_err-second.ensures.1 in
    rw (p.1, p.2)
    (seconds.operand_no a.kinds.now a.numbers.now a.types.now a.first.len a.column.now a.row a.scope a.first.place (1 + a.first.rows) q.0 I Γ e S Q c.in_ok-inner.inner c.in_ok-inner.ensures
    y.new.types y.new.column y.result y.ensures c.in_err-second.field-0.0 c.in_err-second.was)

pub type_second-type_body-requires : goal.type_second-type_body-requires
type_second-type_body-requires t c =
    let a = c.args in let q = c.requires in
    let y = c.type_of in let w = c.in_ok-second.second in
    let r = c.if-kind-eq-WORD_REDSEQ.true in (
      omega arith,
      (
        seconds.body_place a.kinds.now a.numbers.now a.types.now a.first.len a.column.now a.row a.scope a.first.place (1 + a.first.rows) q.0 q.1.0 q.1.1 q.1.2 q.1.3 q.1.4
            c.in_ok-inner.inner c.in_ok-inner.ensures y.new.types y.new.column y.result y.ensures w.place w.rows w.len c.in_ok-second.was r,
        (
          q.1.0,
          q.1.1,
          q.1.2,
          seconds.still_stands a.kinds.now a.numbers.now a.types.now a.first.len a.column.now a.row a.scope a.first.place (1 + a.first.rows) q.0 q.1.0 q.1.1 q.1.2 q.1.3 q.1.4
              c.in_ok-inner.inner c.in_ok-inner.ensures y.new.types y.new.column y.result y.ensures w.place w.rows w.len c.in_ok-second.was r,
          seconds.second_typed a.kinds.now a.numbers.now a.types.now a.first.len a.column.now a.row a.scope a.first.place (1 + a.first.rows) q.0 q.1.0 q.1.1 q.1.2 q.1.3 q.1.4
              c.in_ok-inner.inner c.in_ok-inner.ensures y.new.types y.new.column y.result y.ensures w.place w.rows w.len c.in_ok-second.was r,
        ),
      ),
    )

pub type_second-returns-then-kind-eq-WORD_REDSEQ : goal.type_second-returns-then-kind-eq-WORD_REDSEQ
type_second-returns-then-kind-eq-WORD_REDSEQ t c =
    λ I Γ e S Q.
    let a = c.args in let q = c.requires in
    let y = c.type_of in let w = c.in_ok-second.second in
    let r = c.if-kind-eq-WORD_REDSEQ.true in let z = c.type_body in
    seconds.body_row a.kinds.now a.numbers.now a.types.now a.first.len a.column.now a.row a.scope a.first.place
    (1 + a.first.rows) q.0 I Γ e S Q c.in_ok-inner.inner c.in_ok-inner.ensures y.new.types y.new.column y.result y.ensures w.place w.rows w.len c.in_ok-second.was r
    z.new.types z.new.column z.result (z.ensures I Γ e
    (seconds.still_stands a.kinds.now a.numbers.now a.types.now a.first.len a.column.now a.row a.scope a.first.place
    (1 + a.first.rows) q.0 I Γ e S Q c.in_ok-inner.inner c.in_ok-inner.ensures y.new.types y.new.column y.result y.ensures w.place w.rows w.len c.in_ok-second.was r)
    (seconds.second_typed a.kinds.now a.numbers.now a.types.now a.first.len a.column.now a.row a.scope a.first.place
    (1 + a.first.rows) q.0 I Γ e S Q c.in_ok-inner.inner c.in_ok-inner.ensures y.new.types y.new.column y.result y.ensures w.place w.rows w.len c.in_ok-second.was r))

pub type_second-binary-answer-requires : goal.type_second-binary-answer-requires
type_second-binary-answer-requires t c =
    let a = c.args in let q = c.requires in
    let y = c.type_of in let w = c.in_ok-second.second in
    seconds.binary_ready a.kinds.now a.numbers.now a.types.now a.first.len a.column.now a.row a.scope a.first.place
    (1 + a.first.rows) q.0 q.1.0 q.1.1 q.1.2 q.1.3 q.1.4 c.in_ok-inner.inner c.in_ok-inner.ensures y.new.types y.new.column y.result y.ensures w.place w.rows w.len
    c.in_ok-second.was c.if-kind-eq-WORD_REDSEQ.false

pub type_second-put_type-requires : goal.type_second-put_type-requires
type_second-put_type-requires t c =
    let a = c.args in let q = c.requires in
    let y = c.type_of in let w = c.in_ok-second.second in
    let r = c.binary-answer in (
      omega (
        arith,
        seconds.row_inside a.kinds.now a.numbers.now a.types.now a.first.len a.column.now a.row a.scope a.first.place (1 + a.first.rows) q.0 q.1.0 q.1.1 q.1.2 q.1.3 q.1.4,
        seconds.column_kept a.kinds.now a.numbers.now a.types.now a.first.len a.column.now a.row a.scope a.first.place (1 + a.first.rows) q.0 q.1.0 q.1.1 q.1.2 q.1.3 q.1.4
            c.in_ok-inner.inner c.in_ok-inner.ensures y.new.types y.new.column y.result y.ensures w.place w.rows w.len c.in_ok-second.was,
      ),
      place_small _ _ _ _ _ _ r.result r.ensures,
    )

pub type_second-returns : goal.type_second-returns
type_second-returns t c =
    λ I Γ e S Q.
    let a = c.args in let q = c.requires in
    let y = c.type_of in let w = c.in_ok-second.second in
    let z = c.binary-answer in let r = c.put_type in
    seconds.binary_row a.kinds.now a.numbers.now a.types.now a.first.len a.column.now a.row a.scope a.first.place
    (1 + a.first.rows) q.0 I Γ e S Q c.in_ok-inner.inner c.in_ok-inner.ensures y.new.types y.new.column y.result y.ensures w.place w.rows w.len c.in_ok-second.was c.if-kind-eq-WORD_REDSEQ.false
    z.new.types z.result r.result r.new.column z.ensures r.ensures.0 r.ensures.1

pub type_body-returns-in_err-inner : goal.type_body-returns-in_err-inner
type_body-returns-in_err-inner t c =
    λ I Γ e S Q.
    let a = c.args in let q = c.requires in
    let p = err_from_is_err_and c.from_residual.result c.from_residual.ensures.1 in
    rw (p.1, p.2, c.in_err-inner.ensures.1) (bodies.closed_row a.kinds.now a.numbers.now a.types.now a.array.len a.column.now a.row a.scope a.start.place a.array.place
    (1 + a.start.rows + a.array.rows) q.0 I Γ e S Q c.in_err-inner.ensures.0)

pub type_body-slice_bounds-type_of-count : goal.type_body-slice_bounds-type_of-count
type_body-slice_bounds-type_of-count t c =
    let a = c.args in omega (arith, third_sizes a.kinds.now a.numbers.now a.types.now a.array.len a.column.now a.row a.scope a.start.place a.array.place (1 + a.start.rows + a.array.rows) c.requires)

pub type_body-slice_bounds-type_of-start : goal.type_body-slice_bounds-type_of-start
type_body-slice_bounds-type_of-start t c =
    let a = c.args in omega (arith, third_sizes a.kinds.now a.numbers.now a.types.now a.array.len a.column.now a.row a.scope a.start.place a.array.place (1 + a.start.rows + a.array.rows) c.requires)

pub type_body-offset_bounds-numbers-at : goal.type_body-offset_bounds-numbers-at
type_body-offset_bounds-numbers-at t c =
    let a = c.args in record {
      fits = omega (
        arith,
        third_sizes a.kinds.now a.numbers.now a.types.now a.array.len a.column.now a.row a.scope a.start.place a.array.place
            (1 + a.start.rows + a.array.rows) c.requires,
      );
    }

pub type_body-slice_bounds-type_of-count-2 : goal.type_body-slice_bounds-type_of-count-2
type_body-slice_bounds-type_of-count-2 t c =
    let a = c.args in omega (arith, third_sizes a.kinds.now a.numbers.now a.types.now a.array.len a.column.now a.row a.scope a.start.place a.array.place (1 + a.start.rows + a.array.rows) c.requires)

pub type_body-slice_bounds-type_of-start-2 : goal.type_body-slice_bounds-type_of-start-2
type_body-slice_bounds-type_of-start-2 t c =
    let a = c.args in omega (arith, third_sizes a.kinds.now a.numbers.now a.types.now a.array.len a.column.now a.row a.scope a.start.place a.array.place (1 + a.start.rows + a.array.rows) c.requires)

pub type_body-overflow_add-row : goal.type_body-overflow_add-row
type_body-overflow_add-row t c =
    let a = c.args in record {
      fits = omega (
        arith,
        third_sizes a.kinds.now a.numbers.now a.types.now a.array.len a.column.now a.row a.scope a.start.place a.array.place
            (1 + a.start.rows + a.array.rows) c.requires,
      );
    }

pub type_body-type_of-requires : goal.type_body-type_of-requires
type_body-type_of-requires t c =
    let a = c.args in let q = c.requires in (
      omega (
        arith,
        third_sizes a.kinds.now a.numbers.now a.types.now a.array.len a.column.now a.row a.scope a.start.place a.array.place (1 + a.start.rows + a.array.rows) q,
        part_length (1 + a.start.rows + a.array.rows) a.kinds.now,
      ),
      (
        bodies.operand_place a.kinds.now a.numbers.now a.types.now a.array.len a.column.now a.row a.scope a.start.place a.array.place (1 + a.start.rows + a.array.rows) q.0 q.1.0 q.1.1 q.1.2 q.1.3
            q.1.4 c.in_ok-inner.inner c.in_ok-inner.ensures,
        (
          q.1.0,
          type_at a.types.now a.start.place ∷ element (type_at a.types.now a.array.place) ∷ q.1.1,
          third_operand q.1.2,
          bodies.operand_stands a.kinds.now a.numbers.now a.types.now a.array.len a.column.now a.row a.scope a.start.place a.array.place (1 + a.start.rows + a.array.rows) q.0 q.1.0 q.1.1 q.1.2 q.1.3
              q.1.4 c.in_ok-inner.inner c.in_ok-inner.ensures,
        ),
      ),
    )

pub type_body-returns-in_err-body : goal.type_body-returns-in_err-body
type_body-returns-in_err-body t c =
    λ I Γ e S Q.
    let a = c.args in let q = c.requires in
    let y = c.type_of in
    let p = err_from_is_err_and c.from_residual-in_err-body.result c.from_residual-in_err-body.ensures.1 in
    rw (p.1, p.2)
    (bodies.operand_no a.kinds.now a.numbers.now a.types.now a.array.len a.column.now a.row a.scope a.start.place a.array.place
    (1 + a.start.rows + a.array.rows) q.0 I Γ e S Q c.in_ok-inner.inner c.in_ok-inner.ensures
    y.new.types y.new.column y.result y.ensures c.in_err-body.field-0.0 c.in_err-body.was)

pub type_body-reduce-answer-requires : goal.type_body-reduce-answer-requires
type_body-reduce-answer-requires t c =
    let a = c.args in let q = c.requires in
    let y = c.type_of in let w = c.in_ok-body.body in
    bodies.reduce_ready a.kinds.now a.numbers.now a.types.now a.array.len a.column.now a.row a.scope a.start.place a.array.place (1 + a.start.rows + a.array.rows) q.0 q.1.0 q.1.1 q.1.2 q.1.3 q.1.4
    c.in_ok-inner.inner c.in_ok-inner.ensures y.new.types y.new.column y.result y.ensures w.place w.rows w.len c.in_ok-body.was

pub type_body-put_type-requires : goal.type_body-put_type-requires
type_body-put_type-requires t c =
    let a = c.args in let q = c.requires in
    let y = c.type_of in let w = c.in_ok-body.body in
    let r = c.reduce-answer in (
      omega (
        arith,
        bodies.row_inside a.kinds.now a.numbers.now a.types.now a.array.len a.column.now a.row a.scope a.start.place a.array.place (1 + a.start.rows + a.array.rows) q.0 q.1.0 q.1.1 q.1.2 q.1.3 q.1.4,
        bodies.column_kept a.kinds.now a.numbers.now a.types.now a.array.len a.column.now a.row a.scope a.start.place a.array.place (1 + a.start.rows + a.array.rows) q.0 q.1.0 q.1.1 q.1.2 q.1.3 q.1.4
            c.in_ok-inner.inner c.in_ok-inner.ensures y.new.types y.new.column y.result y.ensures w.place w.rows w.len c.in_ok-body.was,
      ),
      place_small _ _ _ _ _ _ r.result r.ensures,
    )

pub type_body-returns : goal.type_body-returns
type_body-returns t c =
    λ I Γ e S Q.
    let a = c.args in let q = c.requires in
    let y = c.type_of in let w = c.in_ok-body.body in
    let z = c.reduce-answer in let r = c.put_type in
    bodies.reduce_row a.kinds.now a.numbers.now a.types.now a.array.len a.column.now a.row a.scope a.start.place a.array.place
    (1 + a.start.rows + a.array.rows) q.0 I Γ e S Q c.in_ok-inner.inner c.in_ok-inner.ensures y.new.types y.new.column y.result y.ensures w.place w.rows w.len c.in_ok-body.was
    z.result r.result r.new.column z.ensures r.ensures.0 r.ensures.1

pub type_of-overflow_add-own : goal.type_of-overflow_add-own
type_of-overflow_add-own t c =
    let a = c.args in let q = c.requires in
    let y = c.type_of in let w = c.in_ok-first.first in
    record {
      fits = omega (
        arith,
        steps.operand_within a.kinds.now a.numbers.now a.types.now a.len a.column.now a.row a.scope q.0 q.1.0 q.1.1 q.1.2
            q.1.3 (sym c.is_leaf.ensures ∙ c.if-is_leaf.false) y.new.types y.new.column y.result y.ensures w.place w.rows w.len c.in_ok-first.was,
        q.0.few,
      );
    }

pub type_second-overflow_add-own : goal.type_second-overflow_add-own
type_second-overflow_add-own t c =
    let a = c.args in let q = c.requires in
    let y = c.type_of in let w = c.in_ok-second.second in
    record {
      fits = omega (
        arith,
        seconds.last_within a.kinds.now a.numbers.now a.types.now a.first.len a.column.now a.row a.scope a.first.place (1 + a.first.rows) q.0 q.1.0
            q.1.1 q.1.2 q.1.3 q.1.4 c.in_ok-inner.inner c.in_ok-inner.ensures y.new.types y.new.column y.result y.ensures w.place w.rows w.len c.in_ok-second.was,
        q.0.few,
      );
    }

pub type_body-overflow_add-own : goal.type_body-overflow_add-own
type_body-overflow_add-own t c =
    let a = c.args in let q = c.requires in
    let y = c.type_of in let w = c.in_ok-body.body in
    record {
      fits = omega (
        arith,
        bodies.last_within a.kinds.now a.numbers.now a.types.now a.array.len a.column.now a.row a.scope a.start.place a.array.place (1 + a.start.rows + a.array.rows) q.0
            q.1.0 q.1.1 q.1.2 q.1.3 q.1.4 c.in_ok-inner.inner c.in_ok-inner.ensures y.new.types y.new.column y.result y.ensures w.place w.rows w.len c.in_ok-body.was,
        q.0.few,
      );
    }

pub type_second-overflow_add-at : goal.type_second-overflow_add-at
type_second-overflow_add-at t c =
    let a = c.args in record { fits = omega (arith, second_sizes a.kinds.now a.numbers.now a.types.now a.first.len a.column.now a.row a.scope a.first.place (1 + a.first.rows) c.requires) }

pub type_body-overflow_add-at : goal.type_body-overflow_add-at
type_body-overflow_add-at t c =
    let a = c.args in record {
      fits = omega (
        arith,
        third_sizes a.kinds.now a.numbers.now a.types.now a.array.len a.column.now a.row a.scope a.start.place a.array.place
            (1 + a.start.rows + a.array.rows) c.requires,
      );
    }

pub type_body-overflow_add-at-2 : goal.type_body-overflow_add-at-2
type_body-overflow_add-at-2 t c =
    let a = c.args in record {
      fits = omega (
        arith,
        third_sizes a.kinds.now a.numbers.now a.types.now a.array.len a.column.now a.row a.scope a.start.place a.array.place
            (1 + a.start.rows + a.array.rows) c.requires,
      );
    }
