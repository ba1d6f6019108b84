use Rattle.std.proofs.Common.{SFits, arith, get_or, pos, rules}
use mir.Syntax.{w32}
use Rattle.std.proofs.lemmas.Int.{to_z-of_z}
use Rattle.programs.proofs.Tables.{cells_next, cells_end}
use Rattle.programs.proofs.table.cells_in.Goals as goal

pub loop-number-preserved : goal.loop-number-preserved
loop-number-preserved c =
    let turn = c.loop-number in
    let fits : SFits w32 (get_or c.args.numbers.now turn.number-index (pos 0)) = search rules in
    let here = simp to_z-of_z at c.natural-cells.ensures.0 in
    (omega arith, omega (arith, here, cells_next c.args.numbers.now turn.number-index c.loop-number-test.true))

pub returns : goal.returns
returns c = omega (arith, cells_end c.args.numbers.now c.loop-number.number-index c.loop-number-test.false)
