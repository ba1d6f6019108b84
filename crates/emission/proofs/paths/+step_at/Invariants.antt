-- `step_at` meets its contract: the steps of the last change, or those behind it.
use Rattle.emission.proofs.paths.+step_at.Given as goal

abbrev pub decreases-step_at : goal.decreases-step_at
decreases-step_at l = l.path.depth
