-- The measures of the cycle: each call passes fewer rows, or the same rows to a function that comes after it.
use Rattle.std.proofs.Common.{◌+◌, ◌*◌, length}
use Rattle.row_typing.proofs.terms.+type_body_type_of_type_second.Given as goal

abbrev pub decreases-type_body : goal.decreases-type_body
decreases-type_body l = 3 * length l.kinds.now

abbrev pub decreases-type_of : goal.decreases-type_of
decreases-type_of l = 3 * length l.kinds.now + 2

abbrev pub decreases-type_second : goal.decreases-type_second
decreases-type_second l = 3 * length l.kinds.now + 1
