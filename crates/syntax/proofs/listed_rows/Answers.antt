-- `syntax::listed_rows` meets its contract: question 2 of the kinds in front is that of the rows.
use mathlib.Core.Path.{◌∙◌}
use Rattle.words.proofs.Laws.{rows_length}
use Rattle.syntax.proofs.Tables.{rows_found}
use Rattle.syntax.proofs.listed_rows.Goals as goal

pub returns-in-Some-clause-result : goal.returns-in-Some-clause-result
returns-in-Some-clause-result c = rw c.in-Some.is at (rows_found c.args.kinds.now c.args.numbers.now (c.row_count-rows.ensures.0 ∙ rows_length _ _) c.unlisted.ensures)

pub returns-in-None-clause-result : goal.returns-in-None-clause-result
returns-in-None-clause-result c = rw c.in-None.is at (rows_found c.args.kinds.now c.args.numbers.now (c.row_count-rows.ensures.0 ∙ rows_length _ _) c.unlisted.ensures)
