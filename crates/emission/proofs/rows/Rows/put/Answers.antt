-- `put` meets its contract: the row is stored where there is room, and else only the end moves, once.
use native.Mathlib.Omega.{arith}
use mathlib.Core.Path.{ap, ◌∙◌}
use mir.Syntax.{w32}
use mir.ValLaws.{to_z-of_z}
use Rattle.emission.specs.Table.{put_row}
use Rattle.emission.specs.Laws.Table.{put_room_as, put_full, put_past}
use Rattle.emission.proofs.rows.Rows.put.Goals as goal

pub returns-then-self-lt-MOST_ROWS : goal.returns-then-self-lt-MOST_ROWS
returns-then-self-lt-MOST_ROWS c =
    put_room_as _ _ _ _ _ _ (to_z-of_z w32 c.args.number c.ranges.number) c.if-self-lt-MOST_ROWS.true
    ∙ ap (λ o. put_row o (c.args.kind, c.args.number)) c.self.view_is

pub returns-then-self-eq-MOST_ROWS : goal.returns-then-self-eq-MOST_ROWS
returns-then-self-eq-MOST_ROWS c =
    put_full _ _ _ _ c.if-self-eq-MOST_ROWS.true ∙ ap (λ o. put_row o (c.args.kind, c.args.number)) c.self.view_is

pub returns-else-self-eq-MOST_ROWS : goal.returns-else-self-eq-MOST_ROWS
returns-else-self-eq-MOST_ROWS c = rw (← c.self.view_is) (put_past _ _ _ _ (omega arith))
