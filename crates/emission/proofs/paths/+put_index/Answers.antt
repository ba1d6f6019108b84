use native.Mathlib.Omega.{arith}
use mathlib.Core.Path.{sym, ◌∙◌}
use Rattle.emission.specs.Laws.Indices.{index_by, depth_by, part_index, index_counter, index_literal, index_over, index_rest, index_group}
use Rattle.emission.specs.Laws.Table.{none_past}
use Rattle.emission.proofs.paths.+put_index.Goals as goal

pub returns-then-has_too_many : goal.returns-then-has_too_many
returns-then-has_too_many t c = none_past _ _ (sym c.has_too_many.ensures ∙ c.if-has_too_many.true)

pub returns-in_default : goal.returns-in_default
returns-in_default t c =
    index_by _ c.args.path.depth c.args.j _ _ c.step_at.ensures c.in_default.is _ _ _
    (index_literal c.args.path.changes.now c.args.counters _ _ _ c.put_count.ensures)

pub put_index-requires : goal.put_index-requires
put_index-requires t c =
    let h = depth_by _ c.args.path.depth c.args.j _ _ c.step_at.ensures (rw c.in-Same.is at c.in-Some.is) in
    (omega (arith, h, c.requires), (omega (arith, h, c.requires), omega (arith, h, c.requires)))

pub put_index-requires-in-OfGroup : goal.put_index-requires-in-OfGroup
put_index-requires-in-OfGroup t c =
    let h = depth_by _ c.args.path.depth c.args.j _ _ c.step_at.ensures (rw c.in-OfGroup.is at c.in-Some.is) in
    (omega (arith, h, c.requires), (omega (arith, h, c.requires), omega (arith, h, c.requires)))

pub put_index-requires-in-OfGroup-2 : goal.put_index-requires-in-OfGroup-2
put_index-requires-in-OfGroup-2 t c =
    let h = depth_by _ c.args.path.depth c.args.j _ _ c.step_at.ensures (rw c.in-OfGroup.is at c.in-Some.is) in
    (omega (arith, h, c.requires), (omega (arith, h, c.requires), omega (arith, h, c.requires)))

pub put_index-requires-in-Quotient : goal.put_index-requires-in-Quotient
put_index-requires-in-Quotient t c =
    let h = depth_by _ c.args.path.depth c.args.j _ _ c.step_at.ensures (rw c.in-Quotient.is at c.in-Some.is) in
    (omega (arith, h, c.requires), (omega (arith, h, c.requires), omega (arith, h, c.requires)))

pub put_index-requires-in-Remainder : goal.put_index-requires-in-Remainder
put_index-requires-in-Remainder t c =
    let h = depth_by _ c.args.path.depth c.args.j _ _ c.step_at.ensures (rw c.in-Remainder.is at c.in-Some.is) in
    (omega (arith, h, c.requires), (omega (arith, h, c.requires), omega (arith, h, c.requires)))

pub returns-in-CounterAt : goal.returns-in-CounterAt
returns-in-CounterAt t c =
    index_by _ c.args.path.depth c.args.j _ _ c.step_at.ensures (rw c.in-CounterAt.is at c.in-Some.is) _ _ _
    (index_counter c.args.path.changes.now c.args.counters _ _ _ _ c.from_innermost.ensures c.put_count-in-CounterAt.ensures)

pub returns-in-LiteralAt : goal.returns-in-LiteralAt
returns-in-LiteralAt t c =
    index_by _ c.args.path.depth c.args.j _ _ c.step_at.ensures (rw c.in-LiteralAt.is at c.in-Some.is) _ _ _
    (index_literal c.args.path.changes.now c.args.counters _ _ _ c.put_count-in-LiteralAt.ensures)

pub returns-in-Same : goal.returns-in-Same
returns-in-Same t c =
    index_by _ c.args.path.depth c.args.j _ _ c.step_at.ensures (rw c.in-Same.is at c.in-Some.is) _ _ _
    c.put_index.ensures

pub returns-in-OfGroup : goal.returns-in-OfGroup
returns-in-OfGroup t c =
    index_by _ c.args.path.depth c.args.j _ _ c.step_at.ensures (rw c.in-OfGroup.is at c.in-Some.is) _ _ _
    (index_group _ _ _ _ _ _ _ _ _ c.put_count-in-OfGroup.ensures c.put_count-in-OfGroup-2.ensures c.put_index-in-OfGroup.ensures
    c.put_index-in-OfGroup-2.ensures)

pub returns-in-Quotient : goal.returns-in-Quotient
returns-in-Quotient t c =
    index_by _ c.args.path.depth c.args.j _ _ c.step_at.ensures (rw c.in-Quotient.is at c.in-Some.is) _ _ _
    (index_over _ _ _ _ _ _ _ c.put_count-in-Quotient.ensures c.put_index-in-Quotient.ensures)

pub returns-in-Remainder : goal.returns-in-Remainder
returns-in-Remainder t c =
    index_by _ c.args.path.depth c.args.j _ _ c.step_at.ensures (rw c.in-Remainder.is at c.in-Some.is) _ _ _
    (index_rest _ _ _ _ _ _ _ c.put_count-in-Remainder.ensures c.put_index-in-Remainder.ensures)

pub returns-in-FirstPart : goal.returns-in-FirstPart
returns-in-FirstPart t c =
    index_by _ c.args.path.depth c.args.j _ _ c.step_at.ensures c.in-Some.is _ _ _
    (part_index _ _ _ _ _ c.in-FirstPart.is
    (index_literal c.args.path.changes.now c.args.counters _ _ _ c.put_count-in-FirstPart.ensures))
