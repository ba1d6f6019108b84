-- The rows that are left fall, and with the same rows the stage: a write calls a use or the write of a map, a use the write of a map or the
-- use of a reduction.
use Rattle.std.proofs.Common.{◌+◌, ◌*◌, length}
use Rattle.row_translation.proofs.+use_reduce_use_term_write_map_write_term.Given as goal

abbrev pub decreases-reductions::use_reduce : goal.decreases-reductions::use_reduce
decreases-reductions::use_reduce l = 3 * length l.term.kinds.now

abbrev pub decreases-uses::use_term : goal.decreases-uses::use_term
decreases-uses::use_term l = 3 * length l.term.kinds.now + 1

abbrev pub decreases-writes::write_map : goal.decreases-writes::write_map
decreases-writes::write_map l = 3 * length l.term.kinds.now

abbrev pub decreases-writes::write_term : goal.decreases-writes::write_term
decreases-writes::write_term l = 3 * length l.term.kinds.now + 2
