-- `put_place` meets its contract: by the node's class; a node that rearranges changes the path, and its operand is written.
use Rattle.emission.proofs.places.+put_place.Given as goal

abbrev pub decreases-put_place : goal.decreases-put_place
decreases-put_place l = l.from
