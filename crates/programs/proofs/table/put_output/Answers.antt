use Rattle.std.proofs.Common.{◌≡◌, ◌∙◌, SFits, ap, arith, get_or, length, pos, rules, sym}
use Rattle.std.proofs.lemmas.List.Edits.{sets}
use mir.Syntax.{w32}
use Rattle.std.proofs.lemmas.Int.{to_z-of_z}
use Rattle.words.specs.Words.{bytes}
use Rattle.programs.specs.Runner.{cell_lines}
use Rattle.programs.proofs.Putting.{lines_put, lines_end, part_put, finished_put, writes_short, cell_short}
use Rattle.programs.proofs.table.put_output.Goals as goal

pub loop-cell-preserved : goal.loop-cell-preserved
loop-cell-preserved c =
    let cells = c.args.cells.now in
    let turn = c.loop-cell in
    let fits : SFits w32 (get_or cells turn.cell (pos 0)) = search rules in
    let put = simp to_z-of_z at c.put_cell-at.ensures in
    let p = lines_put cells turn.cell c.loop-cell-test.true turn.text _ _ turn.at c.put_cell-at.result _ put.0 put.2 turn.invariant.1 turn.invariant.2 in
    let short = cell_short turn.cell _ (omega arith) put.1 in
    (omega (arith, put.0, short), p.0, p.1)

pub returns : goal.returns
returns c =
    let cells = c.args.cells.now in
    let turn = c.loop-cell in
    let put = c.put_natural in
    let none = lines_end cells turn.cell c.loop-cell-test.false in
    let all : turn.at ≡ length (cell_lines 0 cells) = omega (arith, turn.invariant.2, ap length none) in
    let p = finished_put cells c.args.writes c.args.text.now turn.at put.result all
    (sym (ap (sets turn.text turn.at) none) ∙ turn.invariant.1)
    (part_put (bytes "writes,") turn.text turn.at _ c.copy_from_slice.ensures.after (omega arith) (omega arith)) put.ensures.0 put.ensures.1 in
    (p.0, omega (arith, put.ensures.0, writes_short c.args.writes (omega arith)), p.1)
