-- `programs::translator_with` meets its contract: the table of 4,096 rows has room for all that is made, so that a refusal is the
-- translation's own.
use mathlib.Core.Path.{◌≡◌, refl, sym}
use native.Mathlib.Omega.{arith}
use lib.ListN.{length}
use lib.Seq.{length-take-le}
use Rattle.words.specs.Tables.{words_in}
use Rattle.programs.proofs.MadeTexts as laws
use Rattle.programs.proofs.translator_with.Goals as goal

pub slice_bounds-kinds-end : goal.slice_bounds-kinds-end
slice_bounds-kinds-end c =
    let a = c.args in
    let rows-with = c.rows_with in
    let few = laws.few_rows (words_in a.table.now) a.plan.now rows-with.result _ _ _ _ refl refl rows-with.ensures c.in-Ok.rows c.in-Ok.is in
    omega (arith, few)

pub slice_bounds-print-end : goal.slice_bounds-print-end
slice_bounds-print-end c =
    let a = c.args in
    let rows-with = c.rows_with in
    let few = laws.few_rows (words_in a.table.now) a.plan.now rows-with.result _ _ _ _ refl refl rows-with.ensures c.in-Ok.rows c.in-Ok.is in
    let kept : length rows-with.new.kinds ≡ 4096 = rows-with.auto.kinds in
    sym (length-take-le c.in-Ok.rows rows-with.new.kinds (omega (arith, kept, few)))

pub slice_bounds-numbers-end : goal.slice_bounds-numbers-end
slice_bounds-numbers-end c =
    let a = c.args in
    let rows-with = c.rows_with in
    let few = laws.few_rows (words_in a.table.now) a.plan.now rows-with.result _ _ _ _ refl refl rows-with.ensures c.in-Ok.rows c.in-Ok.is in
    omega (arith, few)

pub slice_bounds-print-end-in-Ok : goal.slice_bounds-print-end-in-Ok
slice_bounds-print-end-in-Ok c =
    let a = c.args in
    let rows-with = c.rows_with in
    let few = laws.few_rows (words_in a.table.now) a.plan.now rows-with.result _ _ _ _ refl refl rows-with.ensures c.in-Ok.rows c.in-Ok.is in
    let kept : length rows-with.new.numbers ≡ 4096 = rows-with.auto.numbers in
    sym (length-take-le c.in-Ok.rows rows-with.new.numbers (omega (arith, kept, few)))

pub returns-in-Err : goal.returns-in-Err
returns-in-Err c =
    let a = c.args in
    let rows-with = c.rows_with in
    let put-refusal = c.put_refusal in
    laws.text_refused (words_in a.table.now) a.plan.now rows-with.result _ _ _ _ refl refl rows-with.ensures _ c.in-Err.is
    put-refusal.ensures.0

pub returns-in-Ok : goal.returns-in-Ok
returns-in-Ok c =
    let a = c.args in
    let rows-with = c.rows_with in
    let print = c.print in
    laws.text_printed (words_in a.table.now) a.plan.now rows-with.result _ _ _ _ refl refl rows-with.ensures
    c.in-Ok.rows c.in-Ok.is print.ensures
