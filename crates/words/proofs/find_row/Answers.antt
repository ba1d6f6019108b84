-- `words::find_row` meets its contract: as many bytes of the row as its word has letters are the word.
use mathlib.Core.Path.{◌≡◌, sym, ap, ◌∙◌}
use Prim.Native.Nat.{ℕ}
use native.Mathlib.Omega.{arith}
use borrow.Author.Rules.{rules}
use lib.ListN.{length}
use lib.Seq.{length-take-le}
use Rattle.words.proofs.Laws.{first_take}
use Rattle.words.specs.Tables.{first_of, words_in}
use Rattle.words.specs.Words.{look_up}
use Rattle.words.proofs.find_row.Goals as goal

pub slice_bounds-find-end : goal.slice_bounds-find-end
slice_bounds-find-end c =
    let a = c.args in
    let count = c.letter_count-count in
    let long : length a.row ≡ 19 = search rules in
    sym (length-take-le count.result a.row (omega (arith, long, count.ensures.1)))

pub returns : goal.returns
returns c =
    let a = c.args in
    let count = c.letter_count-count in
    let long : length a.row ≡ 19 = search rules in
    c.find.ensures.0
    ∙ ap (look_up (words_in a.table.now)) (sym (first_take 0 count.result a.row (omega (arith, long, count.ensures.1)))
    ∙ ap (λ (n : ℕ). first_of 0 n a.row) count.ensures.0)
