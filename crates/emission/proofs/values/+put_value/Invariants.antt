-- `put_value` meets its contract: by the node's class; a node's operands stand before it.
use Rattle.emission.proofs.values.+put_value.Given as goal

abbrev pub decreases-put_value : goal.decreases-put_value
decreases-put_value l = l.from
