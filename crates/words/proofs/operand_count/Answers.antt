-- `words::operand_count` meets its contract: the table's row is the word's entry, packed, and the sort's column of that is the count's
-- digit, or a dash.
use Rattle.std.specs.Prelude.{Some}
use mathlib.Core.Path.{sym, ap, ◌∙◌, subst}
use Prim.Native.Nat.{ℕ, ◌+◌, ◌-◌, ◌≤◌}
use lib.ListN.{get_or}
use Rattle.words.proofs.Packed.{entry_row, column_none, column_count}
use Rattle.words.proofs.operand_count.Goals as goal

pub returns-then-count-eq45 : goal.returns-then-count-eq45
returns-then-count-eq45 c =
    let row = c.row_in-word in
    column_none _ _ (entry_row c.args.kind c.requires row.ensures) c.args.sort
    (ap (λ (j : ℕ). get_or row.result (10 + j) 0) (sym c.column.ensures.0) ∙ c.if-count-eq45.true)

pub digit-requires : goal.digit-requires
digit-requires c =
    let row = c.row_in-word in
    subst (λ (j : ℕ). 48 ≤ get_or row.result (10 + j) 0) (sym c.column.ensures.0) (column_count _ _
    (entry_row c.args.kind c.requires row.ensures) c.args.sort
    (λ e. c.if-count-eq45.false (ap (λ (j : ℕ). get_or row.result (10 + j) 0) c.column.ensures.0 ∙ e))).0

pub returns : goal.returns
returns c =
    let row = c.row_in-word in
    let column = c.column in
    ap Some c.digit.ensures
    ∙ ap (λ (j : ℕ). Some (get_or row.result (10 + j) 0 - 48)) column.ensures.0
    ∙ (column_count _ _ (entry_row c.args.kind c.requires row.ensures) c.args.sort
    (λ e. c.if-count-eq45.false (ap (λ (j : ℕ). get_or row.result (10 + j) 0) column.ensures.0 ∙ e))).1
