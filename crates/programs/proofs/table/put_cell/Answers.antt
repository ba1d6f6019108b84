-- `put_cell` meets its contract: the cell's number, a comma, the value and byte 10.
use mathlib.Core.Path.{ap, ◌∙◌}
use native.Mathlib.Omega.{arith}
use lib.IntN.{ℤ}
use lib.ListN.{length}
use lib.Seq.{sets}
use mir.Facts.{to_z-of_z}
use Rattle.numerals.specs.Numerals.{decimal}
use Rattle.programs.proofs.Putting.{cell_put}
use Rattle.programs.proofs.table.put_cell.Goals as goal

pub overflow_add-end : goal.overflow_add-end
overflow_add-end c =
    let put-natural = c.put_natural-comma in
    omega (arith, c.size.ensures.upper_bound, put-natural.ensures.2)

pub overflow_add-result : goal.overflow_add-result
overflow_add-result c =
    let put-natural = c.put_natural-comma in
    omega (arith, c.size.ensures.upper_bound, put-natural.ensures.2)

pub returns : goal.returns
returns c =
    let a = c.args in
    let fits = c.ranges in
    let put-natural = c.put_natural-comma in
    let put = c.put in
    let as_read = to_z-of_z fits.value in
    let size = c.size.ensures.value ∙ ap (λ (z : ℤ). length (decimal z)) as_read in
    let p = cell_put a.cell a.value a.text.now a.at put-natural.result c.size.result put-natural.ensures.1 put-natural.ensures.0 size
    (put.ensures ∙ ap (λ (z : ℤ). sets put-natural.new.text put-natural.result (decimal z)) as_read) c.put-2.ensures in
    (p.0, omega (arith, size, c.size.ensures.upper_bound), p.1)
