use Rattle.std.proofs.Common.{refl, ◌+◌, pos, get_or, set, arith, Ok}
use Rattle.std.proofs.lemmas.Result.{err_from_is_err_and}
use Rattle.meaning.specs.Types.{number}
use Rattle.syntax.proofs.Numbers.{natural_of}
use Rattle.syntax.proofs.Front.{part_length}
use Rattle.row_typing.proofs.InputLaws as laws
use Rattle.row_typing.proofs.inputs.type_inputs.Goals as goal

pub bounds-numbers-0 : goal.bounds-numbers-0
bounds-numbers-0 c =
    let a = c.args in let q = c.requires in
    omega (arith, laws.some_rows a.kinds.now a.numbers.now q.0 q.1 q.3.0 q.3.1, q.0)

pub loop-i-init : goal.loop-i-init
loop-i-init c = λ P S. laws.inputs_start c.args.types.now c.put_number.new.types _ P.inputs c.put_number.ensures refl

pub slice_bounds-type_rows-count : goal.slice_bounds-type_rows-count
slice_bounds-type_rows-count c =
    let a = c.args in let q = c.requires in let n = c.put_number in let l = c.loop-i in
    omega (arith, (laws.row_within a.kinds.now a.numbers.now q.0 q.1 q.3.0 q.3.1 n.new.types l.types l.places l.i l.row l.len (l.invariant q.3.0 q.3.1)).1, q.0, q.1)

pub slice_bounds-type_rows-start : goal.slice_bounds-type_rows-start
slice_bounds-type_rows-start c =
    let a = c.args in let q = c.requires in let n = c.put_number in let l = c.loop-i in
    omega (arith, (laws.row_within a.kinds.now a.numbers.now q.0 q.1 q.3.0 q.3.1 n.new.types l.types l.places l.i l.row l.len (l.invariant q.3.0 q.3.1)).1, q.0, q.1)

pub offset_bounds-numbers-row : goal.offset_bounds-numbers-row
offset_bounds-numbers-row c =
    let a = c.args in let q = c.requires in let n = c.put_number in let l = c.loop-i in
    record { fits = omega (arith, (laws.row_within a.kinds.now a.numbers.now q.0 q.1 q.3.0 q.3.1 n.new.types l.types l.places l.i l.row l.len (l.invariant q.3.0 q.3.1)).1, q.0, q.1) }

pub slice_bounds-type_rows-count-in-loop-i : goal.slice_bounds-type_rows-count-in-loop-i
slice_bounds-type_rows-count-in-loop-i c =
    let a = c.args in let q = c.requires in let n = c.put_number in let l = c.loop-i in
    omega (arith, (laws.row_within a.kinds.now a.numbers.now q.0 q.1 q.3.0 q.3.1 n.new.types l.types l.places l.i l.row l.len (l.invariant q.3.0 q.3.1)).1, q.0, q.1)

pub slice_bounds-type_rows-start-in-loop-i : goal.slice_bounds-type_rows-start-in-loop-i
slice_bounds-type_rows-start-in-loop-i c =
    let a = c.args in let q = c.requires in let n = c.put_number in let l = c.loop-i in
    omega (arith, (laws.row_within a.kinds.now a.numbers.now q.0 q.1 q.3.0 q.3.1 n.new.types l.types l.places l.i l.row l.len (l.invariant q.3.0 q.3.1)).1, q.0, q.1)

pub type_rows-requires : goal.type_rows-requires
type_rows-requires c =
    let a = c.args in let q = c.requires in let n = c.put_number in let l = c.loop-i in
    let I = l.invariant q.3.0 q.3.1 in (
      omega (
        arith,
        (laws.row_within a.kinds.now a.numbers.now q.0 q.1 q.3.0 q.3.1 n.new.types l.types l.places l.i l.row l.len (l.invariant q.3.0 q.3.1)).1,
        q.0,
        q.1,
        part_length l.row a.kinds.now,
      ),
      laws.input_room a.kinds.now a.numbers.now q.0 q.1 q.3.0 q.3.1 n.new.types l.types l.places l.i l.row l.len (l.invariant q.3.0 q.3.1) (omega (arith, q.2, n.ensures.size)),
      I.typed.some,
      I.typed.first,
      (
        get_or q.3.0.inputs l.i number,
        laws.input_stands a.kinds.now a.numbers.now q.0 q.1 q.3.0 q.3.1 n.new.types l.types l.places l.i l.row l.len (l.invariant q.3.0 q.3.1)
            (omega (
              arith,
              c.loop-i-test.true,
              laws.input_count_holds a.kinds.now a.numbers.now q.0 q.1 q.3.0 q.3.1 c.natural-i-end.result
                  (natural_of (get_or a.numbers.now 0 (pos 0)) (record { sfits = c.natural-arg-1.given }) c.natural-i-end.ensures.0),
            )),
      ),
    )

pub returns-in_err-input : goal.returns-in_err-input
returns-in_err-input c =
    λ P S.
    let a = c.args in let q = c.requires in let n = c.put_number in let l = c.loop-i in
    let y = c.type_rows in
    let p = err_from_is_err_and c.from_residual.result c.from_residual.ensures.1 in
    rw (p.1, p.2)
    (laws.input_no a.kinds.now a.numbers.now q.0 q.1 P S n.new.types l.types l.places l.i l.row l.len (l.invariant P S)
    (omega (
      arith,
      c.loop-i-test.true,
      laws.input_count_holds a.kinds.now a.numbers.now q.0 q.1 P S c.natural-i-end.result
          (natural_of (get_or a.numbers.now 0 (pos 0)) (record { sfits = c.natural-arg-1.given }) c.natural-i-end.ensures.0),
    )) y.new.types y.result y.ensures c.in_err-input.field-0.0 c.in_err-input.was)

pub overflow_cast-places : goal.overflow_cast-places
overflow_cast-places c =
    let a = c.args in let q = c.requires in let n = c.put_number in let l = c.loop-i in
    let y = c.type_rows in let w = c.in_ok-input.input in
    record {
      fits = (laws.input_small a.kinds.now a.numbers.now q.0 q.1 q.3.0 q.3.1 n.new.types l.types l.places l.i l.row l.len (l.invariant q.3.0 q.3.1)
          (omega (
            arith,
            c.loop-i-test.true,
            laws.input_count_holds a.kinds.now a.numbers.now q.0 q.1 q.3.0 q.3.1 c.natural-i-end.result
                (natural_of (get_or a.numbers.now 0 (pos 0)) (record { sfits = c.natural-arg-1.given }) c.natural-i-end.ensures.0),
          )) y.new.types y.result y.ensures w.place w.rows w.len c.in_ok-input.was).0;
    }

pub bounds-places-i : goal.bounds-places-i
bounds-places-i c =
    let a = c.args in let q = c.requires in let n = c.put_number in let l = c.loop-i in
    let y = c.type_rows in let w = c.in_ok-input.input in
    omega (
      arith,
      laws.input_small a.kinds.now a.numbers.now q.0 q.1 q.3.0 q.3.1 n.new.types l.types l.places l.i l.row l.len (l.invariant q.3.0 q.3.1)
          (omega (
            arith,
            c.loop-i-test.true,
            laws.input_count_holds a.kinds.now a.numbers.now q.0 q.1 q.3.0 q.3.1 c.natural-i-end.result
                (natural_of (get_or a.numbers.now 0 (pos 0)) (record { sfits = c.natural-arg-1.given }) c.natural-i-end.ensures.0),
          )) y.new.types y.result y.ensures w.place w.rows w.len c.in_ok-input.was,
      (l.invariant q.3.0 q.3.1).typed.places,
    )

pub overflow_add-row : goal.overflow_add-row
overflow_add-row c =
    let a = c.args in let q = c.requires in let n = c.put_number in let l = c.loop-i in
    let y = c.type_rows in let w = c.in_ok-input.input in
    record {
      fits = omega (
        arith,
        (laws.row_within a.kinds.now a.numbers.now q.0 q.1 q.3.0 q.3.1 n.new.types y.new.types (set l.places l.i w.place) (l.i + 1) (l.row + w.rows) w.len
            (laws.input_done a.kinds.now a.numbers.now q.0 q.1 q.3.0 q.3.1 n.new.types l.types l.places l.i l.row l.len (l.invariant q.3.0 q.3.1)
            (omega (
              arith,
              c.loop-i-test.true,
              laws.input_count_holds a.kinds.now a.numbers.now q.0 q.1 q.3.0 q.3.1 c.natural-i-end.result
                  (natural_of (get_or a.numbers.now 0 (pos 0)) (record { sfits = c.natural-arg-1.given }) c.natural-i-end.ensures.0),
            )) y.new.types y.result y.ensures w.place w.rows w.len c.in_ok-input.was)).1,
        q.1,
      );
    }

pub loop-i-preserved : goal.loop-i-preserved
loop-i-preserved c =
    λ P S.
    let a = c.args in let q = c.requires in let n = c.put_number in let l = c.loop-i in
    let y = c.type_rows in let w = c.in_ok-input.input in
    laws.input_done a.kinds.now a.numbers.now q.0 q.1 P S n.new.types l.types l.places l.i l.row l.len (l.invariant P S)
    (omega (
      arith,
      c.loop-i-test.true,
      laws.input_count_holds a.kinds.now a.numbers.now q.0 q.1 P S c.natural-i-end.result
          (natural_of (get_or a.numbers.now 0 (pos 0)) (record { sfits = c.natural-arg-1.given }) c.natural-i-end.ensures.0),
    )) y.new.types y.result y.ensures w.place w.rows w.len c.in_ok-input.was

pub returns : goal.returns
returns c =
    λ P S.
    let a = c.args in let q = c.requires in let n = c.put_number in let l = c.loop-i in
    laws.inputs_found a.types.now n.new.types l.types P (Ok (record { places = l.places; row = l.row; len = l.len })) n.ensures.size
    (laws.inputs_end a.kinds.now a.numbers.now q.0 q.1 P S n.new.types l.types l.places l.i l.row l.len (l.invariant P S)
    (omega (
      arith,
      c.loop-i-test.false,
      laws.input_count_holds a.kinds.now a.numbers.now q.0 q.1 P S c.natural-i-end.result
          (natural_of (get_or a.numbers.now 0 (pos 0)) (record { sfits = c.natural-arg-1.given }) c.natural-i-end.ensures.0),
    )))
