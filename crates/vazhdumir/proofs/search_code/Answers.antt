-- `search_code` meets its contract: few rows are compared, so that the sum does not wrap.
use native.Mathlib.Omega.{arith}
use Rattle.words.proofs.Laws.{words_count}
use Rattle.vazhdumir.proofs.search_code.Goals as goal

pub overflow_add-result : goal.overflow_add-result
overflow_add-result c = record { fits = omega (arith, words_count, c.requires) }
