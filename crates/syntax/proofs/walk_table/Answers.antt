-- `syntax::walk_table` meets its contract: the walk of the one row that is due, and then no row may be left.
use Rattle.std.proofs.Common.{rules, arith, Err}
use mathlib.Core.Path.{◌≡◌, ◌∙◌}
use Rattle.syntax.proofs.Tables as tables
use Rattle.syntax.proofs.walk_table.Goals as goal

pub returns-in_err-rows : goal.returns-in_err-rows
returns-in_err-rows c =
    let no : c.from_residual.result ≡ Err c.in_err-rows.field-0.0 = search rules in
    no ∙ tables.table_unlisted c.args.kinds.now c.args.numbers.now c.listed_rows.ensures.result c.args.sort _ c.in_err-rows.was

pub returns-in_err-end : goal.returns-in_err-end
returns-in_err-end c =
    let no : c.from_residual-in_err-end.result ≡ Err c.in_err-end.field-0.0 = search rules in
    no ∙ tables.table_no c.args.kinds.now c.args.numbers.now c.listed_rows.ensures.result _ c.in_ok-rows.was c.args.sort c.walk.result c.walk.ensures.result _ c.in_err-end.was

pub returns-then-end-rows : goal.returns-then-end-rows
returns-then-end-rows c =
    tables.table_more c.args.kinds.now c.args.numbers.now c.listed_rows.ensures.result _ c.in_ok-rows.was c.args.sort c.walk.result c.walk.ensures.result _ c.in_ok-end.was (omega arith)

pub returns : goal.returns
returns c =
    tables.table_passed c.args.kinds.now c.args.numbers.now c.listed_rows.ensures.result _ c.in_ok-rows.was c.args.sort c.walk.result c.walk.ensures.result _ c.in_ok-end.was (omega arith)
