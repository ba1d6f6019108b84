-- `rows_of` meets its contract: one law for each way out.
use lib.ListN.{length}
use Rattle.row_translation.proofs.reductions.+rows_of.Given as goal

abbrev pub decreases-rows_of : goal.decreases-rows_of
decreases-rows_of l = length l.kinds.now
