-- `shape_at` meets its contract: a sound node's word says its type's shape.
use Rattle.type_table.proofs.Shapes.{shape_told}
use Rattle.type_table.proofs.shape_at.Goals as goal

pub returns : goal.returns
returns c = rw c.shape_in.ensures (shape_told c.args.types.now c.args.place c.requires)
