-- `store::read` meets its contract: each way out is a law of Puts.
use Rattle.store.proofs.Puts as puts
use Rattle.store.proofs.read.Goals as goal

pub returns-then-at-cells : goal.returns-then-at-cells
returns-then-at-cells c =
    puts.read_cells c.args.cells.now c.args.bytes.now c.args.at
    (record { sfits = c.result-1.given }) c.if-at-cells.true

pub returns : goal.returns
returns c =
    puts.read_bytes c.args.cells.now c.args.bytes.now c.args.at c.cell_at.result
    (record { sfits = c.cell_at.type_inv }) c.if-at-cells.false c.cell_at.ensures
