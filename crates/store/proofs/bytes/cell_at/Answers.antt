-- `store::bytes::cell_at` meets its contract: each way out is a law of Puts.
use native.Mathlib.Omega.{arith}
use Rattle.store.proofs.Puts as puts
use Rattle.store.proofs.bytes.cell_at.Goals as goal

pub returns-then-bytes-cell : goal.returns-then-bytes-cell
returns-then-bytes-cell c = puts.cell_outside c.args.bytes.now c.args.cell c.if-bytes-cell.true

pub returns : goal.returns
returns c =
    puts.cell_inside c.args.bytes.now c.args.cell (omega (arith, c.if-bytes-cell.false))
    c.from_le_bytes.result (record { sfits = c.from_le_bytes.type_inv }) c.from_le_bytes.ensures
