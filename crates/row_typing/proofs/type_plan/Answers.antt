-- `type_plan` meets its contract: the term stands behind the inputs' types, and its answer is the plan's.
use Rattle.std.proofs.Common.{refl, [], arith}
use Rattle.std.proofs.lemmas.Result.{err_from_is_err_and}
use Rattle.row_typing.proofs.PlanLaws as laws
use Rattle.row_typing.proofs.type_plan.Goals as goal

pub returns-in_err-inputs : goal.returns-in_err-inputs
returns-in_err-inputs c =
    let a = c.args in let q = c.requires in let y = c.type_inputs in
    let p = err_from_is_err_and c.from_residual.result c.from_residual.ensures.1 in
    rw (p.1, p.2) (laws.inputs_no a.kinds.now a.numbers.now a.types.now a.column.now q y.new.types y.result y.ensures c.in_err-inputs.field-0.0 y.new.types a.column.now _ c.in_err-inputs.was refl)

pub slice_bounds-type_of-count : goal.slice_bounds-type_of-count
slice_bounds-type_of-count c =
    let a = c.args in let q = c.requires in let y = c.type_inputs in
    omega (arith, laws.row_within a.kinds.now a.numbers.now a.types.now a.column.now q y.new.types y.result y.ensures c.in_ok-inputs.inputs c.in_ok-inputs.was q.plan q.stands, q.sizes, q.few)

pub slice_bounds-type_of-start : goal.slice_bounds-type_of-start
slice_bounds-type_of-start c =
    let a = c.args in let q = c.requires in let y = c.type_inputs in
    omega (arith, laws.row_within a.kinds.now a.numbers.now a.types.now a.column.now q y.new.types y.result y.ensures c.in_ok-inputs.inputs c.in_ok-inputs.was q.plan q.stands, q.sizes, q.few)

pub offset_bounds-numbers-row : goal.offset_bounds-numbers-row
offset_bounds-numbers-row c =
    let a = c.args in let q = c.requires in let y = c.type_inputs in
    record {
      fits = omega
          (arith, laws.row_within a.kinds.now a.numbers.now a.types.now a.column.now q y.new.types y.result y.ensures c.in_ok-inputs.inputs c.in_ok-inputs.was q.plan q.stands, q.sizes, q.few);
    }

pub slice_bounds-type_of-count-2 : goal.slice_bounds-type_of-count-2
slice_bounds-type_of-count-2 c =
    let a = c.args in let q = c.requires in let y = c.type_inputs in
    omega (arith, laws.row_within a.kinds.now a.numbers.now a.types.now a.column.now q y.new.types y.result y.ensures c.in_ok-inputs.inputs c.in_ok-inputs.was q.plan q.stands, q.sizes, q.few)

pub slice_bounds-type_of-start-2 : goal.slice_bounds-type_of-start-2
slice_bounds-type_of-start-2 c =
    let a = c.args in let q = c.requires in let y = c.type_inputs in
    omega (arith, laws.row_within a.kinds.now a.numbers.now a.types.now a.column.now q y.new.types y.result y.ensures c.in_ok-inputs.inputs c.in_ok-inputs.was q.plan q.stands, q.sizes, q.few)

pub type_of-requires : goal.type_of-requires
type_of-requires c =
    let a = c.args in let q = c.requires in let y = c.type_inputs in (
      laws.term_place a.kinds.now a.numbers.now a.types.now a.column.now q y.new.types y.result y.ensures c.in_ok-inputs.inputs c.in_ok-inputs.was,
      (
        q.plan.inputs,
        [],
        q.plan.term,
        laws.term_stands a.kinds.now a.numbers.now a.types.now a.column.now q y.new.types y.result y.ensures c.in_ok-inputs.inputs c.in_ok-inputs.was q.plan q.stands _ refl,
      ),
    )

pub returns-in_err-term : goal.returns-in_err-term
returns-in_err-term c =
    let a = c.args in let q = c.requires in let y = c.type_inputs in let z = c.type_of in
    let p = err_from_is_err_and c.from_residual-in_err-term.result c.from_residual-in_err-term.ensures.1 in
    rw (p.1, p.2)
    (laws.term_no a.kinds.now a.numbers.now a.types.now a.column.now q y.new.types y.result y.ensures c.in_ok-inputs.inputs c.in_ok-inputs.was _ refl z.new.types z.new.column
    z.result z.ensures c.in_err-term.field-0.0 _ c.in_err-term.was refl)

pub returns : goal.returns
returns c =
    let a = c.args in let q = c.requires in let y = c.type_inputs in let z = c.type_of in
    laws.term_answered a.kinds.now a.numbers.now a.types.now a.column.now q y.new.types y.result y.ensures c.in_ok-inputs.inputs c.in_ok-inputs.was _ refl z.new.types z.new.column
    z.result z.ensures c.in_ok-term.term c.in_ok-term.was
