-- `text_with` meets its contract: a table of 4,096 rows has room for all that is made, and the text is put only where it fits.
use Rattle.std.specs.Prelude.{Ok, Err}
use borrow.Author.Rules.{rules}
use mathlib.Core.Path.{◌≡◌, refl, sym, ◌∙◌}
use native.Mathlib.Omega.{arith}
use lib.ListN.{length}
use lib.Seq.{length-take-le}
use Rattle.words.specs.Tables.{words_in}
use Rattle.translate.proofs.LentLaws as lent
use Rattle.translate.proofs.text_with.Goals as goal

pub returns-in_err-rows : goal.returns-in_err-rows
returns-in_err-rows c =
    let a = c.args in
    let no : c.rows_with.result ≡ Err c.in_err-rows.field-0.0 = search rules in
    let gone : c.from_residual.result ≡ Err c.in_err-rows.field-0.0 = search rules in
    let same : c.from_residual.result ≡ c.rows_with.result = gone ∙ sym no in
    rw same (lent.text_refused (words_in a.table.now) a.text.now c.rows_with.result _ _ _ _ refl refl c.rows_with.ensures a.lent.now no)

pub slice_bounds-kinds-end : goal.slice_bounds-kinds-end
slice_bounds-kinds-end c =
    let told : c.rows_with.result ≡ Ok c.in_ok-rows.rows = search rules in
    let a = c.args in
    let rows-with = c.rows_with in
    let few = lent.few_rows (words_in a.table.now) a.text.now rows-with.result _ _ _ _ refl refl rows-with.ensures a.lent.now c.in_ok-rows.rows told in
    omega (arith, few)

pub slice_bounds-print-end : goal.slice_bounds-print-end
slice_bounds-print-end c =
    let told : c.rows_with.result ≡ Ok c.in_ok-rows.rows = search rules in
    let a = c.args in
    let rows-with = c.rows_with in
    let few = lent.few_rows (words_in a.table.now) a.text.now rows-with.result _ _ _ _ refl refl rows-with.ensures a.lent.now c.in_ok-rows.rows told in
    let lk : length rows-with.new.kinds ≡ 4096 = rows-with.auto.kinds in
    sym (length-take-le c.in_ok-rows.rows rows-with.new.kinds (omega (arith, lk, few)))

pub slice_bounds-numbers-end : goal.slice_bounds-numbers-end
slice_bounds-numbers-end c =
    let told : c.rows_with.result ≡ Ok c.in_ok-rows.rows = search rules in
    let a = c.args in
    let rows-with = c.rows_with in
    let few = lent.few_rows (words_in a.table.now) a.text.now rows-with.result _ _ _ _ refl refl rows-with.ensures a.lent.now c.in_ok-rows.rows told in
    omega (arith, few)

pub slice_bounds-print-end-2 : goal.slice_bounds-print-end-2
slice_bounds-print-end-2 c =
    let told : c.rows_with.result ≡ Ok c.in_ok-rows.rows = search rules in
    let a = c.args in
    let rows-with = c.rows_with in
    let few = lent.few_rows (words_in a.table.now) a.text.now rows-with.result _ _ _ _ refl refl rows-with.ensures a.lent.now c.in_ok-rows.rows told in
    let ln : length rows-with.new.numbers ≡ 4096 = rows-with.auto.numbers in
    sym (length-take-le c.in_ok-rows.rows rows-with.new.numbers (omega (arith, ln, few)))

pub returns : goal.returns
returns c =
    let told : c.rows_with.result ≡ Ok c.in_ok-rows.rows = search rules in
    let a = c.args in
    let rows-with = c.rows_with in
    let print = c.print in
    lent.text_filled (words_in a.table.now) a.text.now rows-with.result _ _ _ _ refl refl rows-with.ensures a.lent.now
    c.in_ok-rows.rows told _ _ print.ensures
