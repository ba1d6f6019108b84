-- `same` meets its contract: both are arrays of one length with the same element, or pairs of the same types, or vectors of one width, or numbers.
use Rattle.type_table.proofs.+same.Given as goal

abbrev pub decreases-same : goal.decreases-same
decreases-same l = l.a
