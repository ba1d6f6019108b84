-- `run::run_passing` meets its contract: each return is a law of Entries.
use mathlib.Core.Path.{refl}
use native.Mathlib.Omega.{arith}
use Rattle.words.specs.Kinds.{rows_of}
use Rattle.syntax.specs.Reading.{loops_of}
use Rattle.store.specs.Store.{store_of}
use Rattle.run.proofs.Entries as entries
use Rattle.run.proofs.run_passing.Goals as goal

pub returns-then-order-gt2 : goal.returns-then-order-gt2
returns-then-order-gt2 c =
    let a = c.args in
    record {
      frame = refl;
      result = λ w e. entries.order_unknown (loops_of (rows_of a.kinds.now a.numbers.now)) a.need a.order
          (store_of a.cells.now a.bytes.now) c.if-order-gt2.true;
    }

pub returns-then-count-need : goal.returns-then-count-need
returns-then-count-need c =
    let a = c.args in
    let if1 = c.if-order-gt2 in
    let count = c.count in
    record {
      frame = refl;
      result = λ w e. entries.store_short (loops_of (rows_of a.kinds.now a.numbers.now)) a.need a.order
          (store_of a.cells.now a.bytes.now) if1.false (omega (arith, count.ensures, c.if-count-need.true));
    }

pub returns : goal.returns
returns c =
    let a = c.args in
    let count = c.count in
    let pre = c.requires in
    record {
      frame = c.run_loops-writes.ensures.frame;
      result = λ w e. entries.run_finished (loops_of (rows_of a.kinds.now a.numbers.now)) a.need a.order
          (store_of a.cells.now a.bytes.now) (omega arith) (omega (arith, count.ensures)) c.run_loops-writes.result
          (store_of c.run_loops-writes.new.cells c.run_loops-writes.new.bytes)
          (entries.passing_loops a.kinds.now a.numbers.now a.order w a.need c.run_loops-writes.result
          (store_of a.cells.now a.bytes.now) (store_of c.run_loops-writes.new.cells c.run_loops-writes.new.bytes) e
          (c.run_loops-writes.ensures.result pre.0 pre.1));
    }
