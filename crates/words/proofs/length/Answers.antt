-- `words::length` meets its contract.
use mathlib.Core.Path.{sym, ap, ◌∙◌}
use mathlib.Core.List.{List}
use Prim.Native.Nat.{ℕ}
use lib.ListN.{length}
use Rattle.words.specs.Tables.{word_in}
use Rattle.words.proofs.Rows.{word_of_row, row_letters}
use Rattle.words.proofs.length.Goals as goal

pub returns : goal.returns
returns c =
    let row = c.row_in-row in (
      c.letter_count.ensures.0
          ∙ sym (row_letters row.result)
          ∙ ap (λ (l : List ℕ). length l) (sym (word_of_row _ _ ∙ ap word_in (sym row.ensures))),
      c.letter_count.ensures.1,
    )
