use native.Mathlib.Omega.{arith}
use mathlib.Core.Path.{refl, sym, ◌∙◌}
use Rattle.emission.specs.Laws.Values.{path_agree, path_push, below_push, value_of_nothing, value_literal, value_input, value_region, value_output}
use Rattle.emission.specs.Laws.Values.{value_negation, value_operation, value_rearranged}
use Rattle.emission.specs.Laws.Table.{none_past}
use Rattle.emission.proofs.values.+put_value.Goals as goal

pub returns-then-has_too_many-clause-rows : goal.returns-then-has_too_many-clause-rows
returns-then-has_too_many-clause-rows t c = none_past _ _ (sym c.has_too_many.ensures ∙ c.if-has_too_many.true)

pub returns-then-from-left-clause-rows : goal.returns-then-from-left-clause-rows
returns-then-from-left-clause-rows t c =
    value_of_nothing c.args.source.types.now c.args.source.plan.now c.args.in_force.counters c.args.in_force.regions c.args.references.now c.args.from _ _ c.left_in-left.ensures
    c.right_in-right.ensures _ _ _
    c.then-from-left.either c.put_count.ensures

pub returns-in-Literal-clause-rows : goal.returns-in-Literal-clause-rows
returns-in-Literal-clause-rows t c =
    value_literal c.args.source.types.now c.args.source.plan.now c.args.in_force.counters c.args.in_force.regions c.args.references.now c.args.from _ _ c.left_in-left.ensures
    c.right_in-right.ensures _ _ _
    c.if-from-left.false c.if-from-right.false _ _ _ c.class_of-class.ensures c.kind_in.ensures c.in-Literal.is refl _ c.number_in.ensures c.put_literal.ensures

pub returns-in-Input-clause-rows : goal.returns-in-Input-clause-rows
returns-in-Input-clause-rows t c =
    value_input c.args.source.types.now c.args.source.plan.now c.args.in_force.counters c.args.in_force.regions c.args.references.now c.args.from _ _ c.left_in-left.ensures
    c.right_in-right.ensures _ _ _
    c.if-from-left.false c.if-from-right.false _ _ _ c.class_of-class.ensures c.kind_in.ensures c.in-Input.is refl _ _ _ c.number_in-in-Input.ensures
    c.type_in.ensures c.put_count-in-Input.ensures c.put_offset.ensures

pub returns-in-Region-clause-rows : goal.returns-in-Region-clause-rows
returns-in-Region-clause-rows t c =
    value_region c.args.source.types.now c.args.source.plan.now c.args.in_force.counters c.args.in_force.regions c.args.references.now c.args.from _ _ c.left_in-left.ensures
    c.right_in-right.ensures _ _ _
    c.if-from-left.false c.if-from-right.false _ _ _ c.class_of-class.ensures c.kind_in.ensures c.in-Region.is refl _ _ _ _ c.number_in-in-Region.ensures
    c.from_innermost.ensures c.type_in-in-Region.ensures c.put_count-in-Region.ensures c.put_offset-in-Region.ensures

pub returns-in-Output-clause-rows : goal.returns-in-Output-clause-rows
returns-in-Output-clause-rows t c =
    value_output c.args.source.types.now c.args.source.plan.now c.args.in_force.counters c.args.in_force.regions c.args.references.now c.args.from _ _ c.left_in-left.ensures
    c.right_in-right.ensures _ _ _
    c.if-from-left.false c.if-from-right.false _ _ _ c.class_of-class.ensures c.kind_in.ensures c.in-Output.is refl c.put_count-in-Output.ensures

pub returns-in-Negation-clause-rows : goal.returns-in-Negation-clause-rows
returns-in-Negation-clause-rows t c =
    value_negation c.args.source.types.now c.args.source.plan.now c.args.in_force.counters c.args.in_force.regions c.args.references.now c.args.from _ _ c.left_in-left.ensures
    c.right_in-right.ensures _ _ _
    c.if-from-left.false c.if-from-right.false _ _ _ c.class_of-class.ensures c.kind_in.ensures c.in-Negation.is refl _ c.put_count-in-Negation.ensures
    c.put_value.ensures.rows

pub returns-in-Operation-clause-rows : goal.returns-in-Operation-clause-rows
returns-in-Operation-clause-rows t c =
    value_operation c.args.source.types.now c.args.source.plan.now c.args.in_force.counters c.args.in_force.regions c.args.references.now c.args.from _ _ c.left_in-left.ensures
    c.right_in-right.ensures _ _ _
    c.if-from-left.false c.if-from-right.false _ _ _ c.class_of-class.ensures c.kind_in.ensures c.in-Operation.is refl _ _ _ _
    c.kind_in-in-Operation.ensures (path_agree _ _ c.args.depth c.put_value-in-Operation.ensures.kept) c.put_count-in-Operation.ensures
    c.put_value-in-Operation.ensures.rows c.put_value-in-Operation-2.ensures.rows

pub returns-in-Rearranged-clause-rows : goal.returns-in-Rearranged-clause-rows
returns-in-Rearranged-clause-rows t c =
    value_rearranged c.args.source.types.now c.args.source.plan.now c.args.in_force.counters c.args.in_force.regions c.args.references.now c.args.from _ _ c.left_in-left.ensures
    c.right_in-right.ensures _ _ _
    c.if-from-left.false c.if-from-right.false _ _ _ c.class_of-class.ensures c.kind_in.ensures c.in-Rearranged.is refl _ _
    (path_push c.args.changes.now c.args.depth _ (omega arith)) c.operand_read-next.ensures c.put_value-in-Rearranged.ensures.rows

pub returns-in-Rearranged-clause-kept : goal.returns-in-Rearranged-clause-kept
returns-in-Rearranged-clause-kept t c = below_push c.args.changes.now _ c.args.depth _ c.put_value-in-Rearranged.ensures.kept
