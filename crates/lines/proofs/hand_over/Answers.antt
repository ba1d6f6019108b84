-- `hand_over` meets its contract: the rows are put only where both slices have room for them.
use Rattle.std.proofs.Common.{arith}
use Rattle.lines.proofs.Handed.{few_rows, handed}
use Rattle.lines.proofs.hand_over.Goals as goal

pub returns-then-row_count-rows : goal.returns-then-row_count-rows
returns-then-row_count-rows c =
    let a = c.args in
    few_rows a.kinds.now a.numbers.now c.requires a.lentkinds.now a.lentnumbers.now c.row_count.ensures.0 c.if-row_count-rows.true

pub returns : goal.returns
returns c =
    let a = c.args in
    handed a.kinds.now a.numbers.now c.requires a.lentkinds.now a.lentnumbers.now (omega arith) (omega arith)
    c.copy_from_slice.ensures.after c.copy_from_slice-2.ensures.after
