-- `columns::all_cells` meets its contract: a sum over the inputs.
use mathlib.Core.Path.{◌≡◌, ◌∙◌}
use Rattle.std.proofs.Common.{rules}
use Rattle.std.specs.List.{sum_by}
use Rattle.syntax.specs.Ranges.{as_natural}
use Rattle.columns.proofs.Inputs.{inputs_summed}
use Rattle.columns.proofs.all_cells.Goals as goal

pub returns : goal.returns
returns c =
    let s : c.sum.result ≡ sum_by as_natural c.args.inputs.now = search rules in
    s ∙ inputs_summed c.args.inputs.now
