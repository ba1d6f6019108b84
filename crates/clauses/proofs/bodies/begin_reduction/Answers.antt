-- `begin_reduction` meets its contract: three nodes are pushed, then the rows put one after the other.
use native.Mathlib.Omega.{arith}
use Rattle.clauses.proofs.ClauseLaws.{reduction_put}
use Rattle.clauses.proofs.bodies.begin_reduction.Goals as goal

pub returns-clause-rows : goal.returns-clause-rows
returns-clause-rows c =
    reduction_put c.args.source.types.now c.args.source.plan.now c.args.made.now.references _ c.args.reduction.place c.args.reduction.array c.args.start.value
    c.args.counters c.args.start.regions c.args.region c.args.start.len c.args.reduction.rounds c.push_reduction.ensures (omega (arith, c.requires.4))
    (omega (arith, c.requires.0.few, c.requires.1)) c.requires.2 c.requires.3 (omega (arith, c.requires.5)) (omega (arith, c.requires.6)) _ _ _ _ _ _
    c.put_region.ensures c.put_assign.ensures.rows c.put_count.ensures c.put_count-2.ensures c.put_next_region.ensures
