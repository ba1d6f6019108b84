-- `put_vector` meets its contract: a cell for each lane, and two levels.
use Rattle.type_table.proofs.Puts.{vector_put}
use Rattle.type_table.proofs.put_vector.Goals as goal

pub returns : goal.returns
returns c =
    rw c.node.ensures (vector_put c.args.types.now c.args.len c.requires.0 c.requires.1
    c.requires.2 c.args.width c.requires.3 c.requires.4)
