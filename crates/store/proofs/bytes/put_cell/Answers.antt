-- `store::bytes::put_cell` meets its contract: each way out is a law of Puts.
use native.Mathlib.Omega.{arith}
use Rattle.store.proofs.Puts as puts
use Rattle.store.proofs.bytes.put_cell.Goals as goal

pub returns-then-bytes-cell-clause-cells : goal.returns-then-bytes-cell-clause-cells
returns-then-bytes-cell-clause-cells c = puts.put_outside c.args.bytes.now c.args.cell c.args.number c.if-bytes-cell.true

pub returns : goal.returns
returns c =
    let told =
    puts.put_inside c.args.bytes.now c.args.cell (omega (arith, c.if-bytes-cell.false)) c.args.number
    c.to_le_bytes.result c.ranges.number c.to_le_bytes.ensures in
    record { cells = told.0; rest = told.1 }
