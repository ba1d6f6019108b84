-- `plans::check_with` meets its contract: the table that was lent to the reader holds the text's rows, and their answer is the text's.
use Rattle.std.specs.Prelude.{Ok, Err}
use mathlib.Core.Path.{◌≡◌, refl, sym, ◌∙◌}
use borrow.Author.Rules.{rules}
use native.Mathlib.Omega.{arith}
use Rattle.words.specs.Tables.{words_in}
use Rattle.words.specs.Words.{look_up}
use Rattle.lines.specs.Reading.{plan_limits}
use Rattle.lines.proofs.TableLaws.{held}
use Rattle.plans.proofs.Texts as texts
use Rattle.plans.proofs.check_with.Goals as goal

pub returns-in_err-rows : goal.returns-in_err-rows
returns-in_err-rows c =
    let a = c.args in
    let no : c.read_plan.result ≡ Err c.in_err-rows.field-0.0 = search rules in
    let gone : c.from_residual.result ≡ Err c.in_err-rows.field-0.0 = search rules in
    gone ∙ sym no ∙ texts.text_refused (words_in a.table.now) a.text.now c.read_plan.ensures.answer no

pub slice_bounds-kinds-end : goal.slice_bounds-kinds-end
slice_bounds-kinds-end c =
    let a = c.args in
    let read_plan = c.read_plan in
    let told : c.read_plan.result ≡ Ok c.in_ok-rows.rows = search rules in
    let h = held (look_up (words_in a.table.now)) plan_limits a.text.now read_plan.ensures told refl refl read_plan.auto.kinds read_plan.auto.numbers in
    omega (arith, h.few)

pub slice_bounds-check_rows-end : goal.slice_bounds-check_rows-end
slice_bounds-check_rows-end c =
    let a = c.args in
    let read_plan = c.read_plan in
    let told : c.read_plan.result ≡ Ok c.in_ok-rows.rows = search rules in
    let h = held (look_up (words_in a.table.now)) plan_limits a.text.now read_plan.ensures told refl refl read_plan.auto.kinds read_plan.auto.numbers in
    sym h.kinds_front

pub slice_bounds-numbers-end : goal.slice_bounds-numbers-end
slice_bounds-numbers-end c =
    let a = c.args in
    let read_plan = c.read_plan in
    let told : c.read_plan.result ≡ Ok c.in_ok-rows.rows = search rules in
    let h = held (look_up (words_in a.table.now)) plan_limits a.text.now read_plan.ensures told refl refl read_plan.auto.kinds read_plan.auto.numbers in
    omega (arith, h.few)

pub slice_bounds-check_rows-end-2 : goal.slice_bounds-check_rows-end-2
slice_bounds-check_rows-end-2 c =
    let a = c.args in
    let read_plan = c.read_plan in
    let told : c.read_plan.result ≡ Ok c.in_ok-rows.rows = search rules in
    let h = held (look_up (words_in a.table.now)) plan_limits a.text.now read_plan.ensures told refl refl read_plan.auto.kinds read_plan.auto.numbers in
    sym h.numbers_front

pub returns : goal.returns
returns c =
    let a = c.args in
    let read_plan = c.read_plan in
    let told : c.read_plan.result ≡ Ok c.in_ok-rows.rows = search rules in
    let h = held (look_up (words_in a.table.now)) plan_limits a.text.now read_plan.ensures told refl refl read_plan.auto.kinds read_plan.auto.numbers in
    texts.text_checked (words_in a.table.now) a.text.now read_plan.ensures.answer told h.rows c.check_rows.ensures
