use Rattle.std.proofs.Common.{◌≡◌, arith, false, length-set, refl, ◌∙◌}
use Rattle.values.specs.Values.{one_line_each}
use Rattle.values.proofs.Seen.{nothing_seen, uneven, other_cell, cell_twice, cell_once, all_once}
use Rattle.values.proofs.one_line_each.Goals as goal
use Rattle.values.proofs.one_line_each.Goals.{then-count-place-via-then-count-place, then-count-place-via-else-count-place+then-seen-place}

pub returns-then-cells-count : goal.returns-then-cells-count
returns-then-cells-count c = uneven c.args.count c.args.cells.now c.if-cells-count.true

pub loop-cell-init : goal.loop-cell-init
loop-cell-init c = (c.if-cells-count.false, refl, nothing_seen c.args.count 16384 (omega arith))

pub returns-then-count-place : goal.returns-then-count-place
returns-then-count-place c =
    let n = c.args.count in
    let cells = c.args.cells.now in
    let turn = c.loop-cell in
    elim c.then-count-place.branch as (λ _. false ≡ one_line_each n cells) [
      | then-count-place-via-then-count-place w ↦ other_cell n cells turn.cell-index _ c.loop-cell-test.true refl w.if-count-place.true
      | then-count-place-via-else-count-place+then-seen-place w ↦
          cell_twice n cells turn.cell-index _ c.loop-cell-test.true refl turn.seen turn.invariant.2 w.if-count-place.false w.if-seen-place.true
    ]

pub loop-cell-preserved : goal.loop-cell-preserved
loop-cell-preserved c =
    let turn = c.loop-cell in (
      turn.invariant.0,
      length-set turn.seen _ _ ∙ turn.invariant.1,
      cell_once c.args.count c.args.cells.now turn.cell-index _ c.loop-cell-test.true refl turn.seen turn.invariant.2 c.if-count-place.false
          (omega arith) c.if-seen-place.false,
    )

pub returns : goal.returns
returns c =
    let turn = c.loop-cell in
    all_once c.args.count c.args.cells.now turn.cell-index turn.seen turn.invariant.0 (omega arith) turn.invariant.2
