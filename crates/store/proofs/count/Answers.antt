-- `store::count` meets its contract.
use mathlib.Core.Path.{sym}
use Rattle.store.specs.Laws as laws
use Rattle.store.proofs.count.Goals as goal

pub returns : goal.returns
returns c = sym (laws.store_length c.args.cells.now c.args.bytes.now)
