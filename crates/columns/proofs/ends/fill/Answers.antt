use native.Mathlib.Omega.{arith}
use lib.ListN.{length, length-set}
use Rattle.columns.proofs.EndPasses as passes
use Rattle.columns.proofs.ends.fill.Goals as goal

pub loop-q-preserved : goal.loop-q-preserved
loop-q-preserved c =
    let turn = c.loop-q in
    let rows = length c.args.kinds.now in
    passes.ends_again c.args.kinds.now turn.ends turn.q _ _ turn.invariant (omega arith) (omega arith)
    (omega (arith, length-set c.args.ends.now rows rows)) c.behind.ensures.0
