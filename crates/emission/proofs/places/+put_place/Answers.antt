use native.Mathlib.Omega.{arith}
use mathlib.Core.Path.{refl}
use Rattle.emission.specs.Laws.Places.{place_of_nothing, not_written, place_nowhere, place_output, place_region, place_rearranged}
use Rattle.emission.specs.Laws.Values.{path_push}
use Rattle.emission.proofs.places.+put_place.Goals as goal

pub returns-then-from-left : goal.returns-then-from-left
returns-then-from-left t c =
    place_of_nothing c.args.types.now c.args.in_force.counters c.args.in_force.regions c.args.references.now c.args.from _ _ c.left_in-left.ensures c.right_in-right.ensures _ _ _
    c.then-from-left.either c.put_nowhere.ensures

pub returns-in-Output : goal.returns-in-Output
returns-in-Output t c =
    place_output c.args.types.now c.args.in_force.counters c.args.in_force.regions c.args.references.now c.args.from _ _ c.left_in-left.ensures c.right_in-right.ensures _ _ _
    c.if-from-left.false c.if-from-right.false _ _ _ c.class_of-class.ensures c.kind_in.ensures c.in-Output.is refl _ _ c.type_in.ensures c.put_count.ensures c.put_offset.ensures

pub returns-in-Region : goal.returns-in-Region
returns-in-Region t c =
    place_region c.args.types.now c.args.in_force.counters c.args.in_force.regions c.args.references.now c.args.from _ _ c.left_in-left.ensures c.right_in-right.ensures _ _ _
    c.if-from-left.false c.if-from-right.false _ _ _ c.class_of-class.ensures c.kind_in.ensures c.in-Region.is refl _ _ _ _ c.number_in.ensures
    c.from_innermost.ensures c.type_in-in-Region.ensures c.put_count-in-Region.ensures c.put_offset-in-Region.ensures

pub returns-in-Rearranged : goal.returns-in-Rearranged
returns-in-Rearranged t c =
    place_rearranged c.args.types.now c.args.in_force.counters c.args.in_force.regions c.args.references.now c.args.from _ _ c.left_in-left.ensures c.right_in-right.ensures _ _ _
    c.if-from-left.false c.if-from-right.false _ _ _ c.class_of-class.ensures c.kind_in.ensures c.in-Rearranged.is refl _ _
    (path_push c.args.changes.now c.args.depth _ (omega arith)) c.operand_written.ensures c.put_place.ensures

pub returns-in-Literal : goal.returns-in-Literal
returns-in-Literal t c =
    place_nowhere c.args.types.now c.args.in_force.counters c.args.in_force.regions c.args.references.now c.args.from _ _ c.left_in-left.ensures c.right_in-right.ensures _ _ _
    c.if-from-left.false c.if-from-right.false _ _ _ c.class_of-class.ensures c.kind_in.ensures refl (not_written _ c.in-Literal.is _ _ _)
    c.put_nowhere-in-Literal.ensures
