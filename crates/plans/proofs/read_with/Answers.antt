-- `plans::read_with` meets its contract: the table of its own holds the text's rows, their answer is the text's, and rows that pass are handed over.
use Rattle.std.specs.Prelude.{Ok, Err}
use mathlib.Core.Path.{◌≡◌, refl, sym, ◌∙◌}
use borrow.Author.Rules.{rules}
use native.Mathlib.Omega.{arith}
use Rattle.words.specs.Tables.{words_in}
use Rattle.words.specs.Words.{look_up}
use Rattle.lines.specs.Lent.{text_rows}
use Rattle.lines.specs.Reading.{plan_limits}
use Rattle.lines.proofs.TableLaws.{refused_into, told_into, held}
use Rattle.plans.proofs.Texts as texts
use Rattle.plans.proofs.read_with.Goals as goal

pub returns-in_err-rows : goal.returns-in_err-rows
returns-in_err-rows c =
    let a = c.args in
    let no : c.read_plan.result ≡ Err c.in_err-rows.field-0.0 = search rules in
    let gone : c.from_residual.result ≡ Err c.in_err-rows.field-0.0 = search rules in
    refused_into (text_rows (words_in a.table.now) a.text.now) a.kinds.now a.numbers.now
    (gone ∙ sym no ∙ texts.text_refused (words_in a.table.now) a.text.now c.read_plan.ensures.answer no) gone

pub slice_bounds-own_kinds-end : goal.slice_bounds-own_kinds-end
slice_bounds-own_kinds-end c =
    let a = c.args in
    let read_plan = c.read_plan in
    let told : c.read_plan.result ≡ Ok c.in_ok-rows.rows = search rules in
    let h = held (look_up (words_in a.table.now)) plan_limits a.text.now read_plan.ensures told refl refl read_plan.auto.kinds read_plan.auto.numbers in
    omega (arith, h.few)

pub slice_bounds-its_kinds-end : goal.slice_bounds-its_kinds-end
slice_bounds-its_kinds-end c =
    let a = c.args in
    let read_plan = c.read_plan in
    let told : c.read_plan.result ≡ Ok c.in_ok-rows.rows = search rules in
    let h = held (look_up (words_in a.table.now)) plan_limits a.text.now read_plan.ensures told refl refl read_plan.auto.kinds read_plan.auto.numbers in
    sym h.kinds_front

pub slice_bounds-own_numbers-end : goal.slice_bounds-own_numbers-end
slice_bounds-own_numbers-end c =
    let a = c.args in
    let read_plan = c.read_plan in
    let told : c.read_plan.result ≡ Ok c.in_ok-rows.rows = search rules in
    let h = held (look_up (words_in a.table.now)) plan_limits a.text.now read_plan.ensures told refl refl read_plan.auto.kinds read_plan.auto.numbers in
    omega (arith, h.few)

pub slice_bounds-its_numbers-end : goal.slice_bounds-its_numbers-end
slice_bounds-its_numbers-end c =
    let a = c.args in
    let read_plan = c.read_plan in
    let told : c.read_plan.result ≡ Ok c.in_ok-rows.rows = search rules in
    let h = held (look_up (words_in a.table.now)) plan_limits a.text.now read_plan.ensures told refl refl read_plan.auto.kinds read_plan.auto.numbers in
    sym h.numbers_front

pub returns-in_err-check_rows : goal.returns-in_err-check_rows
returns-in_err-check_rows c =
    let a = c.args in
    let read_plan = c.read_plan in
    let told : c.read_plan.result ≡ Ok c.in_ok-rows.rows = search rules in
    let h = held (look_up (words_in a.table.now)) plan_limits a.text.now read_plan.ensures told refl refl read_plan.auto.kinds read_plan.auto.numbers in
    let no : c.check_rows.result ≡ Err c.in_err-check_rows.field-0.0 = search rules in
    let gone : c.from_residual-in_err-check_rows.result ≡ Err c.in_err-check_rows.field-0.0 = search rules in
    refused_into (text_rows (words_in a.table.now) a.text.now) a.kinds.now a.numbers.now
    (gone ∙ sym no ∙ texts.text_checked (words_in a.table.now) a.text.now read_plan.ensures.answer told h.rows c.check_rows.ensures) gone

pub returns : goal.returns
returns c =
    let a = c.args in
    let read_plan = c.read_plan in
    let told : c.read_plan.result ≡ Ok c.in_ok-rows.rows = search rules in
    let h = held (look_up (words_in a.table.now)) plan_limits a.text.now read_plan.ensures told refl refl read_plan.auto.kinds read_plan.auto.numbers in
    let passes : c.check_rows.result ≡ Ok c.in_ok-check_rows.field-0 = search rules in
    told_into
    (sym (texts.text_checked (words_in a.table.now) a.text.now read_plan.ensures.answer told
    h.rows c.check_rows.ensures)
    ∙ passes)
    h.rows c.hand_over.ensures
