-- `store::put` meets its contract: each way out is a law of Puts.
use Rattle.store.proofs.Puts as puts
use Rattle.store.proofs.put.Goals as goal

pub returns-then-at-cells : goal.returns-then-at-cells
returns-then-at-cells c =
    let told =
    puts.put_cells c.args.cells.now c.args.bytes.now c.args.at c.args.value
    c.ranges.value c.if-at-cells.true in
    record { cells = told.0; frame = told.1 }

pub returns : goal.returns
returns c =
    let at-if1 = c.if-at-cells in
    let told =
    puts.put_bytes c.args.cells.now c.args.bytes.now c.args.at c.args.value
    c.ranges.value c.put_cell.new.bytes at-if1.false c.put_cell.ensures.cells c.put_cell.ensures.rest in
    record { cells = told.0; frame = told.1 }
