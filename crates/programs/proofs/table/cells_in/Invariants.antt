-- `cells_in` meets its contract. The loop's invariant: the cells so far and those of the rows still left are all.
use Rattle.std.proofs.Common.{◌≡◌, ◌+◌, ◌*◌, ◌≤◌, drop}
use Rattle.meaning.specs.Layout.{all_cells}
use Rattle.syntax.specs.Ranges.{cell_numbers}
use Rattle.programs.proofs.table.cells_in.Given as goal

abbrev pub invariant-loop-number : goal.invariant-loop-number
invariant-loop-number l = (l.cells ≤ 2147483648 * l.number-index)
    × (l.cells + all_cells (cell_numbers (drop l.number-index l.numbers)) ≡ all_cells (cell_numbers l.numbers))
