-- `put_output` meets its contract. The loop's invariant: what is put and the lines of the cells still to come make up all lines.
use Rattle.std.proofs.Common.{◌≡◌, ◌+◌, ◌*◌, ◌≤◌, drop, length}
use Rattle.std.proofs.lemmas.List.Edits.{sets}
use Rattle.programs.specs.Runner.{cell_lines}
use Rattle.programs.proofs.table.put_output.Given as goal

abbrev pub invariant-loop-cell : goal.invariant-loop-cell
invariant-loop-cell l = (l.at ≤ 17 * l.cell)
    × (sets l.text l.at (cell_lines l.cell (drop l.cell l.cells)) ≡ sets l.initial.text 0 (cell_lines 0 l.cells))
    × (l.at + length (cell_lines l.cell (drop l.cell l.cells)) ≡ length (cell_lines 0 l.cells))
