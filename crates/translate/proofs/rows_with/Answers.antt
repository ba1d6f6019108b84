-- `rows_with` meets its contract: the table that was lent to the reader holds the text's rows, and their answer is the text's.
use Rattle.std.specs.Prelude.{Ok, Err}
use borrow.Author.Rules.{rules}
use mathlib.Core.Path.{◌≡◌, refl, sym, ◌∙◌}
use native.Mathlib.Omega.{arith}
use Rattle.words.specs.Tables.{words_in}
use Rattle.words.specs.Words.{look_up}
use Rattle.lines.specs.Reading.{plan_limits}
use Rattle.lines.proofs.TableLaws.{held}
use Rattle.translate.proofs.ReadPlan as reading
use Rattle.translate.proofs.rows_with.Goals as goal

pub returns-in_err-rows : goal.returns-in_err-rows
returns-in_err-rows c =
    let a = c.args in
    let no : c.read_plan.result ≡ Err c.in_err-rows.field-0.0 = search rules in
    let gone : c.from_residual.result ≡ Err c.in_err-rows.field-0.0 = search rules in
    let same : c.from_residual.result ≡ c.read_plan.result = gone ∙ sym no in
    rw same (reading.text_unread (words_in a.table.now) a.text.now c.read_plan.result c.read_plan.ensures.answer a.kinds.now a.numbers.now no)

pub slice_bounds-plan_kinds-end : goal.slice_bounds-plan_kinds-end
slice_bounds-plan_kinds-end c =
    let told : c.read_plan.result ≡ Ok c.in_ok-rows.rows = search rules in
    let a = c.args in
    let read_plan = c.read_plan in
    let h = held (look_up (words_in a.table.now)) plan_limits a.text.now read_plan.ensures told refl refl read_plan.auto.kinds read_plan.auto.numbers in
    omega (arith, h.few)

pub slice_bounds-make_rows-end : goal.slice_bounds-make_rows-end
slice_bounds-make_rows-end c =
    let told : c.read_plan.result ≡ Ok c.in_ok-rows.rows = search rules in
    let a = c.args in
    let read_plan = c.read_plan in
    let h = held (look_up (words_in a.table.now)) plan_limits a.text.now read_plan.ensures told refl refl read_plan.auto.kinds read_plan.auto.numbers in
    sym h.kinds_front

pub slice_bounds-plan_numbers-end : goal.slice_bounds-plan_numbers-end
slice_bounds-plan_numbers-end c =
    let told : c.read_plan.result ≡ Ok c.in_ok-rows.rows = search rules in
    let a = c.args in
    let read_plan = c.read_plan in
    let h = held (look_up (words_in a.table.now)) plan_limits a.text.now read_plan.ensures told refl refl read_plan.auto.kinds read_plan.auto.numbers in
    omega (arith, h.few)

pub slice_bounds-make_rows-end-2 : goal.slice_bounds-make_rows-end-2
slice_bounds-make_rows-end-2 c =
    let told : c.read_plan.result ≡ Ok c.in_ok-rows.rows = search rules in
    let a = c.args in
    let read_plan = c.read_plan in
    let h = held (look_up (words_in a.table.now)) plan_limits a.text.now read_plan.ensures told refl refl read_plan.auto.kinds read_plan.auto.numbers in
    sym h.numbers_front

pub make_rows-requires : goal.make_rows-requires
make_rows-requires c =
    let told : c.read_plan.result ≡ Ok c.in_ok-rows.rows = search rules in
    let a = c.args in
    let read_plan = c.read_plan in
    let h = held (look_up (words_in a.table.now)) plan_limits a.text.now read_plan.ensures told refl refl read_plan.auto.kinds read_plan.auto.numbers in
    (h.kinds_front ∙ sym h.numbers_front, omega (arith, h.kinds_front, h.few))

pub returns : goal.returns
returns c =
    let told : c.read_plan.result ≡ Ok c.in_ok-rows.rows = search rules in
    let a = c.args in
    let read_plan = c.read_plan in
    let make-rows = c.make_rows in
    let h = held (look_up (words_in a.table.now)) plan_limits a.text.now read_plan.ensures told refl refl read_plan.auto.kinds read_plan.auto.numbers in
    reading.text_made (words_in a.table.now) a.text.now read_plan.result read_plan.ensures.answer told h.rows make-rows.ensures
