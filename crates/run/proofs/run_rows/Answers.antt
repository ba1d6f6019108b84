-- `run::run_rows` meets its contract: each return is a law of Entries.
use Rattle.std.specs.Prelude.{Ok, Err}
use mathlib.Core.Path.{◌≡◌, refl, sym, ap, ◌∙◌}
use borrow.Author.Rules.{rules}
use Rattle.refusals.specs.Answers.{Answer}
use Rattle.run.specs.Run.{outcome}
use native.Mathlib.Omega.{arith}
use Rattle.words.proofs.Laws.{rows_length}
use Rattle.syntax.proofs.Tables.{kinds_length, numbers_length}
use Rattle.store.specs.Store.{store_of}
use Rattle.run.proofs.Entries as entries
use Rattle.run.proofs.run_rows.Goals as goal

pub run_passing-requires : goal.run_passing-requires
run_passing-requires c =
    let row_count = c.row_count-rows in
    let a = c.args in
    let check_table_holds = c.check_table in
    let told : c.check_table.result ≡ Ok c.in_ok-counted.counted = search rules in
    let rows = row_count.ensures.0 ∙ rows_length a.kinds.now a.numbers.now in
    let k = kinds_length a.kinds.now a.numbers.now rows in
    let few = entries.table_few a.kinds.now a.numbers.now a.order (store_of a.cells.now a.bytes.now)
    check_table_holds.result check_table_holds.ensures c.in_ok-counted.counted.writes c.in_ok-counted.counted.need row_count.result told rows in
    (k ∙ sym (numbers_length a.kinds.now a.numbers.now rows), omega (arith, k, few))

pub returns-in_err-counted : goal.returns-in_err-counted
returns-in_err-counted c =
    let a = c.args in
    let no : c.check_table.result ≡ Err c.in_err-counted.field-0.0 = search rules in
    let gone : c.from_residual.result ≡ Err c.in_err-counted.field-0.0 = search rules in
    record {
      frame = refl;
      result = ap (λ (x : Answer). outcome x (store_of a.cells.now a.bytes.now)) gone
          ∙ entries.table_refused a.kinds.now a.numbers.now a.order (store_of a.cells.now a.bytes.now)
          c.check_table.result c.check_table.ensures _ no;
    }

pub returns : goal.returns
returns c =
    let row_count = c.row_count-rows in
    let a = c.args in
    let check_table_holds = c.check_table in
    let told : c.check_table.result ≡ Ok c.in_ok-counted.counted = search rules in
    let rows = row_count.ensures.0 ∙ rows_length a.kinds.now a.numbers.now in
    record {
      frame = c.run_passing.ensures.frame;
      result = entries.table_run a.kinds.now a.numbers.now a.order (store_of a.cells.now a.bytes.now)
          check_table_holds.result check_table_holds.ensures c.in_ok-counted.counted.writes c.in_ok-counted.counted.need row_count.result told rows
          c.run_passing.result (store_of c.run_passing.new.cells c.run_passing.new.bytes) c.run_passing.ensures.result;
    }
