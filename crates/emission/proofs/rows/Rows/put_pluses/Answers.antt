use Rattle.emission.specs.Laws.Table.{pluses_none, pluses_more}
use Rattle.emission.proofs.rows.Rows.put_pluses.Goals as goal

pub loop-init : goal.loop-init
loop-init c = pluses_none _

pub loop-preserved : goal.loop-preserved
loop-preserved c = pluses_more _ _ _ _ c.loop.invariant c.put_count.ensures
