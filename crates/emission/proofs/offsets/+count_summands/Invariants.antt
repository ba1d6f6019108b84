-- `count_summands` meets its contract: a type's parts stand before it.
use Rattle.emission.proofs.offsets.+count_summands.Given as goal

abbrev pub decreases-count_summands : goal.decreases-count_summands
decreases-count_summands l = l.place
