use native.Mathlib.Omega.{arith}
use mathlib.Core.Path.{sym, ◌∙◌}
use Prim.Native.Nat.{◌+◌}
use Rattle.emission.specs.Laws.Assign.{both_grown, pair_levels, assign_number_holds, assign_elements, assign_pair, pair_grown}
use Rattle.emission.specs.Laws.Elements.{is_number, its_levels_holds, few_elements}
use Rattle.emission.specs.Laws.Growth.{grown_more}
use Rattle.emission.specs.Laws.Table.{none_past}
use Rattle.type_table.specs.Laws.{sound_below}
use Rattle.emission.proofs.assign.+put_assign.Goals as goal

pub returns-then-has_too_many-clause-rows : goal.returns-then-has_too_many-clause-rows
returns-then-has_too_many-clause-rows t c = none_past _ _ (sym c.has_too_many.ensures ∙ c.if-has_too_many.true)

pub overflow_cast-elements : goal.overflow_cast-elements
overflow_cast-elements t c =
    omega (arith, few_elements c.args.source.types.now c.args.place _ _ _ (sound_below c.requires.0 (omega (arith, c.requires.1))) c.in-Some.ensures.0)

pub returns-in-Some-clause-rows : goal.returns-in-Some-clause-rows
returns-in-Some-clause-rows t c =
    let l = its_levels_holds c.in-Some.ensures.0 in
    assign_elements c.args.source.types.now c.args.source.plan.now c.args.made.now.references c.args.place c.args.ends.value c.args.ends.target c.args.in_force.counters
    c.args.in_force.regions _ _
    c.args.len (omega (arith, l, c.requires.4, c.requires.5)) c.requires.2 c.requires.3 _ _ _ _ _ (omega (arith, c.requires.5)) c.in-Some.ensures.0
    c.put_count.ensures c.push_both.ensures c.put_assign.ensures.rows

pub returns-in-Some-clause-grown : goal.returns-in-Some-clause-grown
returns-in-Some-clause-grown t c =
    grown_more _ _ _ c.args.len (c.args.len + 2) (omega arith) (both_grown _ _ _ _ _ _ _ c.push_both.ensures) c.put_assign.ensures.grown

pub returns-in_default-as_pair-clause-rows : goal.returns-in_default-as_pair-clause-rows
returns-in_default-as_pair-clause-rows t c =
    assign_number_holds c.args.source.types.now c.args.source.plan.now c.args.made.now.references c.args.place c.args.ends.value c.args.ends.target c.args.in_force.counters
    c.args.in_force.regions _ _
    (is_number _ c.in_default.ensures c.in_default-as_pair.ensures) c.put_set.ensures

pub returns-clause-rows : goal.returns-clause-rows
returns-clause-rows t c =
    let l = pair_levels _ _ _ c.in-Some-as_pair.ensures.0 in
    assign_pair c.args.source.types.now c.args.source.plan.now c.args.made.now.references c.args.place c.args.ends.value c.args.ends.target c.args.in_force.counters
    c.args.in_force.regions _ _
    c.args.len (omega (arith, l, c.requires.4, c.requires.5)) c.requires.2 c.requires.3 _ _ _ _ _ _ _ c.in-Some-as_pair.ensures.0 c.put_count-2.ensures
    c.push_both-2.ensures c.put_assign-2.ensures.rows c.put_assign-2.ensures.grown c.push_both-3.ensures c.put_assign-3.ensures.rows

pub returns-clause-grown : goal.returns-clause-grown
returns-clause-grown t c =
    pair_grown _ _ _ _ _ c.args.len _ _ c.push_both-2.ensures c.put_assign-2.ensures.grown c.push_both-3.ensures c.put_assign-3.ensures.grown
