-- `layout_of` meets its contract: the table of loops that pass begins with the inputs' cells and the output's.
use Rattle.std.proofs.Common.{◌+◌, SFits, arith, get_or, length-drop, length-take, pos, rules}
use mir.Syntax.{w32}
use Rattle.std.proofs.lemmas.Int.{to_z-of_z}
use Rattle.programs.proofs.Tables.{inputs_are, first_row, laid_out}
use Rattle.programs.proofs.table.layout_of.Goals as goal

pub bounds-numbers-0 : goal.bounds-numbers-0
bounds-numbers-0 c = first_row c.args.kinds.now c.args.numbers.now c.args.store c.requires

pub slice_bounds-cells_in-end : goal.slice_bounds-cells_in-end
slice_bounds-cells_in-end c =
    let a = c.args in
    let fits : SFits w32 (get_or a.numbers.now 0 (pos 0)) = search rules in
    let known = simp to_z-of_z at c.natural-end.ensures.0 in
    omega (arith, (inputs_are a.kinds.now a.numbers.now a.store c.requires c.natural-end.result known).1)

pub cells_in-requires : goal.cells_in-requires
cells_in-requires c =
    let a = c.args in
    let fits : SFits w32 (get_or a.numbers.now 0 (pos 0)) = search rules in
    let known = simp to_z-of_z at c.natural-end.ensures.0 in
    let k = (inputs_are a.kinds.now a.numbers.now a.store c.requires c.natural-end.result known).1 in
    simp (length-take, length-drop) (omega (arith, k, c.requires.same, c.requires.few))

pub bounds-numbers-end : goal.bounds-numbers-end
bounds-numbers-end c =
    let a = c.args in
    let fits : SFits w32 (get_or a.numbers.now 0 (pos 0)) = search rules in
    let known = simp to_z-of_z at c.natural-end.ensures.0 in
    omega (arith, (inputs_are a.kinds.now a.numbers.now a.store c.requires c.natural-end.result known).1)

pub returns : goal.returns
returns c =
    let a = c.args in
    let fits : SFits w32 (get_or a.numbers.now 0 (pos 0)) = search rules in
    let known = simp to_z-of_z at c.natural-end.ensures.0 in
    let fits-output : SFits w32 (get_or a.numbers.now (1 + c.natural-end.result) (pos 0)) = search rules in
    let output = simp to_z-of_z at c.natural.ensures.0 in
    laid_out a.kinds.now a.numbers.now a.store c.requires c.natural-end.result known c.cells_in.result c.natural.result c.cells_in.ensures output
