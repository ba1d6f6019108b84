-- `columns::ask_in` meets its contract: what the passes leave is the answer on the loops whose rows fill the table.
use mathlib.Core.Path.{◌≡◌, ◌∙◌}
use native.Mathlib.Omega.{arith}
use Rattle.std.proofs.Common.{rules, Err}
use Rattle.syntax.proofs.LoopsTable as table
use Rattle.columns.proofs.WholeLoops as whole
use Rattle.columns.proofs.ask_in.Goals as goal

pub returns-then-numbers-command : goal.returns-then-numbers-command
returns-then-numbers-command g c =
    let a = c.args in
    let same = c.requires.table.0 in
    λ L e. absurd (omega (
      arith,
      table.table_long a.kinds.now a.numbers.now same L e,
      table.inputs_counted_holds a.kinds.now a.numbers.now same L e c.number_at-end.ensures.0,
    ))

pub returns-in_err-fill : goal.returns-in_err-fill
returns-in_err-fill g c =
    let a = c.args in
    let no : c.from_residual.result ≡ Err c.in_err-fill.field-0.0 = search rules in
    λ L e. no
    ∙ whole.refused a.kinds.now a.numbers.now _ _ _ c.fill.ensures.result c.fill-2.ensures.result c.fill-3.ensures.figures c.requires.table.0
    c.requires.table.1 L e _ _ c.number_at-end.ensures.0 c.number_at-output.ensures.0 c.in_err-fill.field-0.0 c.in_err-fill.ensures.answer

pub returns : goal.returns
returns g c =
    let a = c.args in
    λ L e. whole.passed a.kinds.now a.numbers.now _ _ _ c.fill.ensures.result c.fill-2.ensures.result c.fill-3.ensures.figures c.requires.table.0
    c.requires.table.1 L e _ _ c.number_at-end.ensures.0 c.number_at-output.ensures.0 _ c.fill-4.ensures.rooms _ _ _ _ _ c.in_ok-fill.ensures.answer
    c.count_at.ensures.0 c.all_cells.ensures c.capped_sum-cells.ensures c.cells_at.ensures c.capped_sum.ensures
