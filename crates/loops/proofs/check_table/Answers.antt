-- `loops::check_table` meets its contract: its rows are those in front of both slices.
use Rattle.std.specs.Prelude.{Ok, Err}
use borrow.Author.Rules.{rules}
use mathlib.Core.Path.{◌≡◌, ◌∙◌}
use Rattle.loops.proofs.LentTables as lent
use Rattle.loops.proofs.check_table.Goals as goal

pub returns-then-rows-gt4096 : goal.returns-then-rows-gt4096
returns-then-rows-gt4096 c =
    let told : c.listed_rows.result ≡ Ok c.in_ok-rows.rows = search rules in
    let a = c.args in
    lent.lent_many a.kinds.now a.numbers.now c.listed_rows.ensures.result _ told c.if-rows-gt4096.true

pub returns-in_err-rows : goal.returns-in_err-rows
returns-in_err-rows c =
    let no : c.listed_rows.result ≡ Err c.in_err-rows.field-0.0 = search rules in
    let a = c.args in
    let gone : c.from_residual.result ≡ Err c.in_err-rows.field-0.0 = search rules in
    gone ∙ lent.lent_unlisted a.kinds.now a.numbers.now c.listed_rows.ensures.result _ no

pub returns : goal.returns
returns c =
    let told : c.listed_rows.result ≡ Ok c.in_ok-rows.rows = search rules in
    let a = c.args in
    let if1 = c.if-rows-gt4096 in
    lent.lent_checked a.kinds.now a.numbers.now c.listed_rows.ensures.result _ told if1.false
    c.check_rows.result c.check_rows.ensures
