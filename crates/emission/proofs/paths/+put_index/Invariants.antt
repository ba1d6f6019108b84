-- `put_index` meets its contract: an index made of others names a smaller depth.
use Rattle.emission.proofs.paths.+put_index.Given as goal

abbrev pub decreases-put_index : goal.decreases-put_index
decreases-put_index l = l.path.depth
