-- `put_inputs` meets its contract: so many rows are put after so many rounds.
use Rattle.std.proofs.Common.{◌≡◌, take}
use Rattle.meaning.specs.Rows.{all_cells_rows}
use Rattle.emission.specs.Table.{put_rows}
use Rattle.translate.specs.Making.{cells_at}
use Rattle.translate.proofs.making.put_inputs.Given as goal

abbrev pub invariant-loop-place : goal.invariant-loop-place
invariant-loop-place l = l.rows ≡ put_rows (all_cells_rows (cells_at l.types (take l.place-index l.places))) l.initial.rows
