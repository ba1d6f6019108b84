-- `words::letter` meets its contract: `get_or` is 0 past the end.
use mathlib.Core.Path.{◌≡◌, sym, ap, ◌∙◌}
use mathlib.Core.List.{List}
use Prim.Native.Nat.{ℕ}
use lib.ListN.{get_or, get_or-eq_default}
use native.Mathlib.Omega.{arith}
use Rattle.words.specs.Tables.{word_in}
use Rattle.words.proofs.Rows.{word_of_row, row_letters, row_letter}
use Rattle.words.proofs.letter.Goals as goal

pub returns-then-letter_count-i : goal.returns-then-letter_count-i
returns-then-letter_count-i c =
    let row = c.row_in-row in
    let i : ℕ = c.args.i in
    let past : get_or (word_in row.result) i 0 ≡ 0 =
    get_or-eq_default (word_in row.result) 0 (omega (arith, row_letters row.result, c.letter_count.ensures.0)) in
    sym (ap (λ (l : List ℕ). get_or l i 0) (word_of_row _ _ ∙ ap word_in (sym row.ensures)) ∙ past)

pub returns : goal.returns
returns c =
    let row = c.row_in-row in
    let i : ℕ = c.args.i in
    sym (ap (λ (l : List ℕ). get_or l i 0) (word_of_row _ _ ∙ ap word_in (sym row.ensures))
    ∙ row_letter row.result i (omega (arith, c.letter_count.ensures.0)))
