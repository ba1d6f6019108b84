-- `fill_inputs` meets its contract: with no cells nothing is asked, else `fill` asks.
use Rattle.programs.proofs.Tables.{none_asked, values_asked}
use Rattle.programs.proofs.table.fill_inputs.Goals as goal

pub returns-then-cells-eq0 : goal.returns-then-cells-eq0
returns-then-cells-eq0 c =
    let args = c.args in
    none_asked args.values.now args.store.now args.cells c.if-cells-eq0.true

pub returns : goal.returns
returns c =
    let args = c.args in
    let fill = c.fill in
    values_asked args.values.now args.store.now args.cells fill.result _ c.if-cells-eq0.false fill.ensures
