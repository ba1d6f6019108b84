-- `programs::reads_values` meets its contract: what stands behind the first line's comma is its number.
use Rattle.programs.proofs.FirstNumber.{number_compared}
use Rattle.programs.proofs.reads_values.Goals as goal

pub returns : goal.returns
returns c =
    number_compared c.args.loops.now c.line_length.result c.field_length.result c.min-number.result c.line_length.ensures.0 c.field_length.ensures.0
    c.min-number.ensures c.as_slice.ensures c.ne.ensures
