-- `put_summands` meets its contract: a type's parts stand before it.
use Rattle.emission.proofs.offsets.+put_summands.Given as goal

abbrev pub decreases-put_summands : goal.decreases-put_summands
decreases-put_summands l = l.place
