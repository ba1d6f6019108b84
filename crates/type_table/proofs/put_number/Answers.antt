-- `put_number` meets its contract: a number has one cell and one level.
use Rattle.type_table.proofs.Puts.{number_put}
use Rattle.type_table.proofs.put_number.Goals as goal

pub returns : goal.returns
returns c = rw c.node.ensures (number_put c.args.types.now c.requires)
