-- `words::row_count` meets its contract: a table has as many rows as the shorter slice.
use mathlib.Core.Path.{sym, ◌∙◌}
use native.Mathlib.Omega.{arith}
use Rattle.words.proofs.Laws.{rows_length}
use Rattle.words.proofs.row_count.Goals as goal

pub returns : goal.returns
returns c = (
  c.min.ensures ∙ sym (rows_length c.args.kinds.now c.args.numbers.now),
  omega arith,
  omega arith,
)
