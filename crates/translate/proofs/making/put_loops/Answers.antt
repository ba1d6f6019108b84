-- `put_loops` meets its contract: head rows and the written term make up the plan's loops.
use mathlib.Core.Path.{refl}
use mathlib.Core.List.{[]}
use native.Mathlib.Omega.{arith}
use Rattle.row_translation.proofs.Calls.{write_as, writes_as}
use Rattle.translate.proofs.Head as head
use Rattle.translate.proofs.making.put_loops.Goals as goal

pub head-count-requires : goal.head-count-requires
head-count-requires c =
    (omega (arith, head.head_there c.requires, c.requires.sizes), head.head_there c.requires, omega (arith, c.requires.column))

pub overflow_cast-count : goal.overflow_cast-count
overflow_cast-count c = omega (arith, head.few_inputs c.requires c.head-count.result.number c.head-count.ensures.1)

pub shared_ref_as_front-put_inputs : goal.shared_ref_as_front-put_inputs
shared_ref_as_front-put_inputs c = head.few_inputs c.requires c.head-count.result.number c.head-count.ensures.1

pub put_inputs-requires : goal.put_inputs-requires
put_inputs-requires c =
    (c.requires.noted.sound, head.inputs_below_holds c.requires c.head-count.result.number c.head-count.ensures.1)

pub from-requires : goal.from-requires
from-requires c = (head.rows_there c.requires, head.numbers_there c.requires, head.column_there c.requires)

pub write_term-requires : goal.write_term-requires
write_term-requires c =
    (omega arith, write_as c.from.ensures (head.ready c.requires _ _ refl refl refl refl refl c.push_stored.ensures.grown.size))

pub returns : goal.returns
returns c P A =
    let r = c.args.rows in
    let p = c.args.plan in
    let stands = head.plan_stands r.kinds.now r.numbers.now r.column.now c.args.types.now p.inputs p.row p.term.place P A c.requires.sizes
    c.requires.few c.requires.column _ _ refl refl in
    head.loops_put r.kinds.now r.numbers.now r.column.now c.args.types.now p.inputs p.row p.term.place P A c.head-count.result.number _ _ _ _ _ _ _
    c.requires.places (head.place_low c.requires) c.head-count.ensures.1 c.put_count.ensures c.put_inputs.ensures c.put_cells.ensures
    c.push_stored.ensures (writes_as c.from.ensures c.write_term.ensures P.inputs [] [] P.term stands).rows
