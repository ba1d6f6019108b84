-- `type_rows` meets its contract: for every type whose rows stand in front, each row is asked after its operands.
use Rattle.std.proofs.Common.{◌∙◌, ◌+◌, pos, length, get_or, arith}
use Rattle.std.proofs.lemmas.Result.{err_from_is_err_and}
use Rattle.syntax.proofs.Numbers.{natural_of}
use Rattle.syntax.proofs.Front.{part_length}
use Rattle.type_rules.proofs.Found.{room_less, room_grown}
use Rattle.row_typing.proofs.TypeLaws.{type_there, number_row, vector_width, vector_row, first_some, refused_first, first_facts, count_bounds, array_row}
use Rattle.row_typing.proofs.TypeLaws.{second_some, refused_second, second_facts, pair_row}
use Rattle.row_typing.proofs.terms.+type_rows.Goals as goal

pub returns-then-kind-eq-WORD_NUM : goal.returns-then-kind-eq-WORD_NUM
returns-then-kind-eq-WORD_NUM t c =
    λ u S.
    let a = c.args in let q = c.requires in
    number_row a.kinds.now a.numbers.now a.types.now a.len (a.row + 1) u S c.if-kind-eq-WORD_NUM.true q.1 q.2 q.3

pub put_vector-requires : goal.put_vector-requires
put_vector-requires t c =
    let a = c.args in let q = c.requires in
    let k = (type_there q.4).0 in (
      q.1.sound,
      omega (arith, q.1.places, k),
      omega (arith, q.1.few, k),
      omega (arith, q.2),
      vector_width a.kinds.now a.numbers.now a.types.now a.len (a.row + 1) q.4.0 _ q.4.1 c.if-kind-eq-WORD_VEC.true
          (natural_of (get_or a.numbers.now 0 (pos 0)) (record { sfits = c.natural-arg-1.given }) c.natural-width.ensures.0),
    )

pub returns-then-kind-eq-WORD_VEC : goal.returns-then-kind-eq-WORD_VEC
returns-then-kind-eq-WORD_VEC t c =
    λ u S.
    let a = c.args in let q = c.requires in
    vector_row a.kinds.now a.numbers.now a.types.now a.len (a.row + 1) u c.natural-width.result c.put_vector.new.types S
    c.if-kind-eq-WORD_VEC.true (natural_of (get_or a.numbers.now 0 (pos 0)) (record { sfits = c.natural-arg-1.given }) c.natural-width.ensures.0) c.put_vector.ensures

pub type_rows-requires : goal.type_rows-requires
type_rows-requires t c =
    let a = c.args in let q = c.requires in
    let k = (type_there q.4).0 in let n = part_length 1 a.kinds.now in (
      omega (arith, k, n),
      (
        omega (arith, q.0, k, n),
        room_less q.1 (omega (arith, k, n)),
        q.2,
        q.3,
        first_some a.kinds.now a.numbers.now a.types.now a.len (a.row + 1) q.4.0 q.4.1 (c.if-kind-eq-WORD_NUM.false, c.if-kind-eq-WORD_VEC.false),
      ),
    )

pub returns-in_err-one : goal.returns-in_err-one
returns-in_err-one t c =
    λ u S.
    let a = c.args in let q = c.requires in
    let y = c.type_rows in
    let p = err_from_is_err_and c.from_residual.result c.from_residual.ensures.1 in
    rw (p.1, p.2)
    (refused_first a.kinds.now a.numbers.now a.types.now a.len (a.row + 1) y.new.types y.result y.ensures u c.in_err-one.field-0.0 S
    (c.if-kind-eq-WORD_NUM.false, c.if-kind-eq-WORD_VEC.false) c.in_err-one.was)

pub overflow_add-at : goal.overflow_add-at
overflow_add-at t c =
    let a = c.args in let q = c.requires in
    let y = c.type_rows in let w = c.in_ok-one.one in
    let f = first_facts a.kinds.now a.numbers.now a.types.now a.len (a.row + 1) y.new.types y.result y.ensures w.place w.rows w.len c.in_ok-one.was
    q.4.0 q.4.1 (c.if-kind-eq-WORD_NUM.false, c.if-kind-eq-WORD_VEC.false) in
    record { fits = omega (arith, f.0, type_there q.4, q.0) }

pub sized_array-requires : goal.sized_array-requires
sized_array-requires t c =
    let a = c.args in let q = c.requires in
    let y = c.type_rows in let w = c.in_ok-one.one in
    let f = first_facts a.kinds.now a.numbers.now a.types.now a.len (a.row + 1) y.new.types y.result y.ensures w.place w.rows w.len c.in_ok-one.was
    q.4.0 q.4.1 (c.if-kind-eq-WORD_NUM.false, c.if-kind-eq-WORD_VEC.false) in
    let b = count_bounds a.kinds.now a.numbers.now a.types.now a.len (a.row + 1) y.new.types y.result y.ensures w.place w.rows w.len c.in_ok-one.was
    q.4.0 _ q.4.1 c.if-kind-eq-WORD_ARR.true (natural_of (get_or a.numbers.now 0 (pos 0)) (record { sfits = c.natural-arg-then-kind-eq-WORD_ARR-1.given }) c.natural-count.ensures.0) in
    (room_grown (length a.kinds.now) 1 q.1 f.3 (omega (arith, f.0, f.2)), f.1, b.0, b.1)

pub returns-then-kind-eq-WORD_ARR : goal.returns-then-kind-eq-WORD_ARR
returns-then-kind-eq-WORD_ARR t c =
    λ u S.
    let a = c.args in let q = c.requires in
    let y = c.type_rows in let w = c.in_ok-one.one in
    let r = c.sized_array in
    array_row a.kinds.now a.numbers.now a.types.now a.len (a.row + 1) y.new.types y.result y.ensures w.place w.rows w.len c.in_ok-one.was u c.natural-count.result r.new.types r.result S
    c.if-kind-eq-WORD_ARR.true (natural_of (get_or a.numbers.now 0 (pos 0)) (record { sfits = c.natural-arg-then-kind-eq-WORD_ARR-1.given }) c.natural-count.ensures.0) r.ensures

pub slice_bounds-type_rows-count-3 : goal.slice_bounds-type_rows-count-3
slice_bounds-type_rows-count-3 t c =
    let a = c.args in let q = c.requires in
    let y = c.type_rows in let w = c.in_ok-one.one in
    let f = first_facts a.kinds.now a.numbers.now a.types.now a.len (a.row + 1) y.new.types y.result y.ensures w.place w.rows w.len c.in_ok-one.was
    q.4.0 q.4.1 (c.if-kind-eq-WORD_NUM.false, c.if-kind-eq-WORD_VEC.false) in
    omega (arith, f.0, type_there q.4, q.0)

pub slice_bounds-type_rows-start-3 : goal.slice_bounds-type_rows-start-3
slice_bounds-type_rows-start-3 t c =
    let a = c.args in let q = c.requires in
    let y = c.type_rows in let w = c.in_ok-one.one in
    let f = first_facts a.kinds.now a.numbers.now a.types.now a.len (a.row + 1) y.new.types y.result y.ensures w.place w.rows w.len c.in_ok-one.was
    q.4.0 q.4.1 (c.if-kind-eq-WORD_NUM.false, c.if-kind-eq-WORD_VEC.false) in
    omega (arith, f.0, type_there q.4, q.0)

pub slice_bounds-type_rows-count-4 : goal.slice_bounds-type_rows-count-4
slice_bounds-type_rows-count-4 t c =
    let a = c.args in let q = c.requires in
    let y = c.type_rows in let w = c.in_ok-one.one in
    let f = first_facts a.kinds.now a.numbers.now a.types.now a.len (a.row + 1) y.new.types y.result y.ensures w.place w.rows w.len c.in_ok-one.was
    q.4.0 q.4.1 (c.if-kind-eq-WORD_NUM.false, c.if-kind-eq-WORD_VEC.false) in
    omega (arith, f.0, type_there q.4, q.0)

pub slice_bounds-type_rows-start-4 : goal.slice_bounds-type_rows-start-4
slice_bounds-type_rows-start-4 t c =
    let a = c.args in let q = c.requires in
    let y = c.type_rows in let w = c.in_ok-one.one in
    let f = first_facts a.kinds.now a.numbers.now a.types.now a.len (a.row + 1) y.new.types y.result y.ensures w.place w.rows w.len c.in_ok-one.was
    q.4.0 q.4.1 (c.if-kind-eq-WORD_NUM.false, c.if-kind-eq-WORD_VEC.false) in
    omega (arith, f.0, type_there q.4, q.0)

pub offset_bounds-numbers-at : goal.offset_bounds-numbers-at
offset_bounds-numbers-at t c =
    let a = c.args in let q = c.requires in
    let y = c.type_rows in let w = c.in_ok-one.one in
    let f = first_facts a.kinds.now a.numbers.now a.types.now a.len (a.row + 1) y.new.types y.result y.ensures w.place w.rows w.len c.in_ok-one.was
    q.4.0 q.4.1 (c.if-kind-eq-WORD_NUM.false, c.if-kind-eq-WORD_VEC.false) in
    record { fits = omega (arith, f.0, type_there q.4, q.0) }

pub overflow_add-row : goal.overflow_add-row
overflow_add-row t c =
    let a = c.args in let q = c.requires in
    let y = c.type_rows in let w = c.in_ok-one.one in
    let f = first_facts a.kinds.now a.numbers.now a.types.now a.len (a.row + 1) y.new.types y.result y.ensures w.place w.rows w.len c.in_ok-one.was
    q.4.0 q.4.1 (c.if-kind-eq-WORD_NUM.false, c.if-kind-eq-WORD_VEC.false) in
    record { fits = omega (arith, f.0, type_there q.4, q.0) }

pub type_rows-requires-2 : goal.type_rows-requires-2
type_rows-requires-2 t c =
    let a = c.args in let q = c.requires in
    let y = c.type_rows in let w = c.in_ok-one.one in
    let f = first_facts a.kinds.now a.numbers.now a.types.now a.len (a.row + 1) y.new.types y.result y.ensures w.place w.rows w.len c.in_ok-one.was
    q.4.0 q.4.1 (c.if-kind-eq-WORD_NUM.false, c.if-kind-eq-WORD_VEC.false) in
    let n = part_length (1 + w.rows) a.kinds.now in (
      omega (arith, f.0, n),
      (
        omega (arith, q.0, f.0, n),
        room_grown (length a.kinds.now) _ q.1 f.3 (omega (arith, f.0, f.2, n)),
        omega (arith, f.1),
        f.3.kept 0 q.2 ∙ q.3,
        second_some a.kinds.now a.numbers.now a.types.now a.len (a.row + 1) y.new.types y.result y.ensures w.place w.rows w.len c.in_ok-one.was
            q.4.0 q.4.1 (c.if-kind-eq-WORD_NUM.false, c.if-kind-eq-WORD_VEC.false) c.if-kind-eq-WORD_ARR.false,
      ),
    )

pub returns-in_err-two : goal.returns-in_err-two
returns-in_err-two t c =
    λ u S.
    let a = c.args in let q = c.requires in
    let y = c.type_rows in let w = c.in_ok-one.one in
    let z = c.type_rows-2 in
    let p = err_from_is_err_and c.from_residual-in_err-two.result c.from_residual-in_err-two.ensures.1 in
    rw (p.1, p.2)
    (refused_second a.kinds.now a.numbers.now a.types.now a.len (a.row + 1) y.new.types y.result y.ensures w.place w.rows w.len c.in_ok-one.was
    z.new.types z.result (a.row + (1 + w.rows) + 1) (omega arith) z.ensures u c.in_err-two.field-0.0 S
    (c.if-kind-eq-WORD_NUM.false, c.if-kind-eq-WORD_VEC.false) c.if-kind-eq-WORD_ARR.false c.in_err-two.was)

pub sized_pair-requires : goal.sized_pair-requires
sized_pair-requires t c =
    let a = c.args in let q = c.requires in
    let y = c.type_rows in let w = c.in_ok-one.one in
    let z = c.type_rows-2 in let v = c.in_ok-two.two in
    let f = second_facts a.kinds.now a.numbers.now a.types.now a.len (a.row + 1) y.new.types y.result y.ensures w.place w.rows w.len c.in_ok-one.was
    z.new.types z.result (a.row + (1 + w.rows) + 1) (omega arith) z.ensures v.place v.rows v.len c.in_ok-two.was
    q.4.0 q.4.1 (c.if-kind-eq-WORD_NUM.false, c.if-kind-eq-WORD_VEC.false) c.if-kind-eq-WORD_ARR.false in
    (room_grown (length a.kinds.now) 1 q.1 f.4 (omega (arith, f.0, f.3)), f.1, f.2)

pub returns : goal.returns
returns t c =
    λ u S.
    let a = c.args in let q = c.requires in
    let y = c.type_rows in let w = c.in_ok-one.one in
    let z = c.type_rows-2 in let v = c.in_ok-two.two in
    let r = c.sized_pair in
    pair_row a.kinds.now a.numbers.now a.types.now a.len (a.row + 1) y.new.types y.result y.ensures w.place w.rows w.len c.in_ok-one.was
    z.new.types z.result (a.row + (1 + w.rows) + 1) (omega arith) z.ensures v.place v.rows v.len c.in_ok-two.was u r.new.types r.result S (c.if-kind-eq-WORD_NUM.false, c.if-kind-eq-WORD_VEC.false)
    c.if-kind-eq-WORD_ARR.false r.ensures

pub overflow_add-own : goal.overflow_add-own
overflow_add-own t c =
    let a = c.args in let q = c.requires in
    let y = c.type_rows in let w = c.in_ok-one.one in
    let z = c.type_rows-2 in let v = c.in_ok-two.two in
    let f = second_facts a.kinds.now a.numbers.now a.types.now a.len (a.row + 1) y.new.types y.result y.ensures w.place w.rows w.len c.in_ok-one.was
    z.new.types z.result (a.row + (1 + w.rows) + 1) (omega arith) z.ensures v.place v.rows v.len c.in_ok-two.was
    q.4.0 q.4.1 (c.if-kind-eq-WORD_NUM.false, c.if-kind-eq-WORD_VEC.false) c.if-kind-eq-WORD_ARR.false in
    record { fits = omega (arith, f.0, q.0) }
