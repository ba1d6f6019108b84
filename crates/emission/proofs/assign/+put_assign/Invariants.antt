-- `put_assign` meets its contract: by the type; the nodes that a step needs are put behind those in use.
use Rattle.emission.proofs.assign.+put_assign.Given as goal

abbrev pub decreases-put_assign : goal.decreases-put_assign
decreases-put_assign l = l.place
