use lib.ListN.{length}
use Rattle.row_typing.proofs.terms.+type_rows.Given as goal

abbrev pub decreases-type_rows : goal.decreases-type_rows
decreases-type_rows l = length l.kinds.now
