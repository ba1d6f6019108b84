-- `programs::run_text` meets its contract: the table that was lent to the reader holds the text's rows, and their outcome is the text's.
use Rattle.std.specs.Prelude.{Err}
use Rattle.std.proofs.Common.{◌≡◌, ◌∙◌, arith, refl, rules, subst, sym}
use Rattle.refusals.specs.Answers.{Answer}
use Rattle.words.specs.Tables.{words_in}
use Rattle.words.specs.Words.{look_up}
use Rattle.lines.specs.Reading.{loops_limits}
use Rattle.lines.specs.Lent.{text_rows}
use Rattle.lines.proofs.TableLaws.{held}
use Rattle.syntax.specs.Reading.{loops_of}
use Rattle.programs.specs.Parts.{RunsInto}
use Rattle.programs.specs.Runner.{runner_outcome}
use Rattle.programs.proofs.Outcomes as outcomes
use Rattle.programs.proofs.run_text.Goals as goal

pub returns-in_err-rows : goal.returns-in_err-rows
returns-in_err-rows c =
    let a = c.args in
    let ws = words_in a.table.now in
    let gone : c.from_residual.result ≡ Err c.in_err-rows.field-0.0 = search rules in
    subst (λ (r : Answer). RunsInto (loops_of (text_rows ws a.loops.now)) (runner_outcome ws a.loops.now a.values.now a.store.now) a.lent.now r a.store.now a.lent.now)
    (sym gone) (outcomes.reading_refused ws a.loops.now a.values.now a.store.now c.read_loops.ensures.answer c.in_err-rows.was, refl)

pub slice_bounds-kinds-end : goal.slice_bounds-kinds-end
slice_bounds-kinds-end c =
    let read = c.read_loops in
    let h = held (look_up (words_in c.args.table.now)) loops_limits c.args.loops.now read.ensures c.in_ok-rows.was refl refl read.auto.kinds read.auto.numbers in
    omega (arith, h.few)

pub slice_bounds-run_table-end : goal.slice_bounds-run_table-end
slice_bounds-run_table-end c =
    let read = c.read_loops in
    let h = held (look_up (words_in c.args.table.now)) loops_limits c.args.loops.now read.ensures c.in_ok-rows.was refl refl read.auto.kinds read.auto.numbers in
    sym h.kinds_front

pub slice_bounds-numbers-end : goal.slice_bounds-numbers-end
slice_bounds-numbers-end c =
    let read = c.read_loops in
    let h = held (look_up (words_in c.args.table.now)) loops_limits c.args.loops.now read.ensures c.in_ok-rows.was refl refl read.auto.kinds read.auto.numbers in
    omega (arith, h.few)

pub slice_bounds-run_table-end-2 : goal.slice_bounds-run_table-end-2
slice_bounds-run_table-end-2 c =
    let read = c.read_loops in
    let h = held (look_up (words_in c.args.table.now)) loops_limits c.args.loops.now read.ensures c.in_ok-rows.was refl refl read.auto.kinds read.auto.numbers in
    sym h.numbers_front

pub run_table-requires : goal.run_table-requires
run_table-requires c =
    let read = c.read_loops in
    let h = held (look_up (words_in c.args.table.now)) loops_limits c.args.loops.now read.ensures c.in_ok-rows.was refl refl read.auto.kinds read.auto.numbers in
    (h.kinds_front ∙ sym h.numbers_front, omega (arith, h.kinds_front, h.few), c.requires)

pub returns : goal.returns
returns c =
    let a = c.args in
    let read = c.read_loops in
    let h = held (look_up (words_in a.table.now)) loops_limits a.loops.now read.ensures c.in_ok-rows.was refl refl read.auto.kinds read.auto.numbers in
    outcomes.table_run (words_in a.table.now) a.loops.now a.values.now a.store.now read.ensures.answer a.lent.now _ _ _ c.in_ok-rows.was h.few h.rows c.run_table.ensures
