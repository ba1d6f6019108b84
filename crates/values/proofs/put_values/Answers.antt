use Rattle.std.specs.Prelude.{◌⊎◌}
use Rattle.std.proofs.Common.{◌≡◌, SFits, arith, length, rules}
use mir.Syntax.{w32}
use Rattle.std.proofs.lemmas.Int.{to_z-of_z}
use Rattle.values.proofs.Stored.{stored_next, stored_end}
use Rattle.values.proofs.put_values.Goals as goal

pub loop-cell-preserved : goal.loop-cell-preserved
loop-cell-preserved c =
    let fits : SFits w32 c.in-Some.value.now = search rules in
    let put = simp to_z-of_z at c.put.ensures in
    stored_next c.loop-cell.store c.in-Some.ensures.steps.0 c.in-Some.ensures.steps.1 put c.loop-cell.invariant

pub returns : goal.returns
returns c =
    let ended : (length c.loop-cell.cell-iterator.a.rest.now ≡ 0) ⊎ (length c.loop-cell.cell-iterator.b.rest.now ≡ 0) = grind arith in
    stored_end _ _ c.loop-cell.store ended c.loop-cell.invariant
