-- How many rows a term has beside its operands'. Assumes nothing.
use mathlib.Core.Path.{ap}
use Prim.Native.Nat.{◌+◌, ◌≤◌}
use native.Mathlib.Omega.{arith}
use lib.ListN.{length, length-append}
use Rattle.meaning.specs.Terms.{Term}
use Rattle.meaning.specs.Rows.{term_rows}
use Rattle.syntax.specs.Standing.{operand_count, first_operand}
use Rattle.syntax.proofs.TermRows.{term_head, behind_first, first_rows}

-- every term has a row
pub some_rows : (e : Term) → 1 ≤ length (term_rows e)
some_rows e = omega (arith, ap length (term_head e))

-- its first operand has fewer
pub first_fewer : (e : Term) → 1 ≤ operand_count e → 1 + length (term_rows (first_operand e)) ≤ length (term_rows e)
first_fewer e h =
    omega (arith, ap length (term_head e), ap length (first_rows e h), length-append (term_rows (first_operand e)) (behind_first e))
