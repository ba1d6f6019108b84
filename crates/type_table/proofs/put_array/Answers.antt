-- `put_array` meets its contract: cells are the length times the element's, levels one more than the element's.
use Rattle.std.proofs.Common.{arith, ap, ◌*◌}
use Rattle.type_table.specs.Table.{type_at}
use Rattle.type_table.specs.Laws.{length_within}
use Rattle.type_table.proofs.Puts.{array_put}
use Rattle.type_table.proofs.put_array.Goals as goal

pub node-requires : goal.node-requires
node-requires c =
    let few =
    length_within c.args.count (type_at c.args.types.now c.args.element)
    (c.requires.0.each c.args.element c.requires.3).within.0 in
    rw c.cells.ensures (omega arith, omega arith, omega arith, omega arith)

pub returns : goal.returns
returns c =
    rw c.node.ensures (array_put c.args.types.now c.args.len c.requires.0 c.requires.1
    c.requires.2 c.args.count c.args.element _ _ c.requires.3 c.requires.4
    c.requires.5 c.requires.6 (omega arith) (ap (λ n. c.args.count * n) c.cells.ensures))
