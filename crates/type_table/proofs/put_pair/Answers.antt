-- `put_pair` meets its contract: cells are the sum, levels one more than those of the deeper.
use Rattle.std.proofs.Common.{arith}
use Rattle.std.proofs.lemmas.Grind.{common_steps}
use Rattle.type_table.proofs.Puts.{pair_put}
use Rattle.type_table.proofs.put_pair.Goals as goal

pub returns : goal.returns
returns c =
    rw c.node.ensures (pair_put c.args.types.now c.args.len c.requires.0 c.requires.1
    c.requires.2 c.args.first c.args.second _ _ c.requires.3 c.requires.4
    c.requires.5 c.requires.6 (grind (arith, common_steps)) (omega arith))
