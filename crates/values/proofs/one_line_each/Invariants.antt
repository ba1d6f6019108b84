-- `values::one_line_each` meets its contract. The loop's invariant: the cells that the lines so far name are marked, and each of
-- them is named once.
use Rattle.std.proofs.Common.{◌≡◌, length, take}
use Rattle.values.proofs.Seen.{Seen}
use Rattle.values.proofs.one_line_each.Given as goal

abbrev pub invariant-loop-cell : goal.invariant-loop-cell
invariant-loop-cell l = (length l.cells ≡ l.count) × (length l.seen ≡ 16384) × Seen l.count l.seen (take l.cell-index l.cells)
