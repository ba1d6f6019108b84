use native.Mathlib.Omega.{arith}
use Rattle.translate.proofs.Head.{cells_none, cells_more, cells_all}
use Rattle.translate.proofs.making.put_inputs.Goals as goal

pub loop-place-init : goal.loop-place-init
loop-place-init c = cells_none c.args.types.now c.args.places.now _

pub loop-place-preserved : goal.loop-place-preserved
loop-place-preserved c = cells_more c.args.types.now c.args.places.now c.loop-place.place-index _ _ _ c.loop-place-test.true c.loop-place.invariant c.put_cells.ensures

pub returns : goal.returns
returns c =
    cells_all c.args.types.now c.args.places.now c.loop-place.place-index _ _ (omega (arith, c.loop-place-test.false, c.loop-place.auto.place-index-end))
    c.loop-place.invariant
