-- `run::run_with` meets its contract: each return is a law of Entries.
use Rattle.std.specs.Prelude.{Ok, Err}
use mathlib.Core.Path.{◌≡◌, refl, sym, ap, ◌∙◌}
use borrow.Author.Rules.{rules}
use Rattle.refusals.specs.Answers.{Answer}
use Rattle.run.specs.Run.{outcome}
use native.Mathlib.Omega.{arith}
use Rattle.words.specs.Tables.{words_in}
use Rattle.words.specs.Words.{look_up}
use Rattle.lines.specs.Reading.{loops_limits}
use Rattle.lines.proofs.TableLaws.{held}
use Rattle.store.specs.Store.{store_of}
use Rattle.run.proofs.Entries as entries
use Rattle.run.proofs.run_with.Goals as goal

pub returns-in_err-rows : goal.returns-in_err-rows
returns-in_err-rows c =
    let a = c.args in
    let no : c.read_loops.result ≡ Err c.in_err-rows.field-0.0 = search rules in
    let gone : c.from_residual.result ≡ Err c.in_err-rows.field-0.0 = search rules in
    record {
      frame = refl;
      result = ap (λ (x : Answer). outcome x (store_of a.cells.now a.bytes.now)) (gone ∙ sym no)
          ∙ entries.text_refused (words_in a.table.now) a.text.now a.order (store_of a.cells.now a.bytes.now) c.read_loops.ensures.answer no;
    }

pub slice_bounds-kinds-end : goal.slice_bounds-kinds-end
slice_bounds-kinds-end c =
    let a = c.args in
    let read_loops = c.read_loops in
    let told : c.read_loops.result ≡ Ok c.in_ok-rows.rows = search rules in
    let h = held (look_up (words_in a.table.now)) loops_limits a.text.now read_loops.ensures told refl refl read_loops.auto.kinds read_loops.auto.numbers in
    omega (arith, h.few)

pub slice_bounds-run_rows-end : goal.slice_bounds-run_rows-end
slice_bounds-run_rows-end c =
    let a = c.args in
    let read_loops = c.read_loops in
    let told : c.read_loops.result ≡ Ok c.in_ok-rows.rows = search rules in
    let h = held (look_up (words_in a.table.now)) loops_limits a.text.now read_loops.ensures told refl refl read_loops.auto.kinds read_loops.auto.numbers in
    sym h.kinds_front

pub slice_bounds-numbers-end : goal.slice_bounds-numbers-end
slice_bounds-numbers-end c =
    let a = c.args in
    let read_loops = c.read_loops in
    let told : c.read_loops.result ≡ Ok c.in_ok-rows.rows = search rules in
    let h = held (look_up (words_in a.table.now)) loops_limits a.text.now read_loops.ensures told refl refl read_loops.auto.kinds read_loops.auto.numbers in
    omega (arith, h.few)

pub slice_bounds-run_rows-end-2 : goal.slice_bounds-run_rows-end-2
slice_bounds-run_rows-end-2 c =
    let a = c.args in
    let read_loops = c.read_loops in
    let told : c.read_loops.result ≡ Ok c.in_ok-rows.rows = search rules in
    let h = held (look_up (words_in a.table.now)) loops_limits a.text.now read_loops.ensures told refl refl read_loops.auto.kinds read_loops.auto.numbers in
    sym h.numbers_front

pub returns : goal.returns
returns c =
    let a = c.args in
    let read_loops = c.read_loops in
    let told : c.read_loops.result ≡ Ok c.in_ok-rows.rows = search rules in
    let h = held (look_up (words_in a.table.now)) loops_limits a.text.now read_loops.ensures told refl refl read_loops.auto.kinds read_loops.auto.numbers in
    record {
      frame = c.run_rows.ensures.frame;
      result = entries.text_run (words_in a.table.now) a.text.now a.order (store_of a.cells.now a.bytes.now) read_loops.ensures.answer
          told h.few h.rows c.run_rows.result (store_of c.run_rows.new.cells c.run_rows.new.bytes)
          c.run_rows.ensures.result;
    }
