-- `translate::translate_rows_in` meets its contract: the words text is refused, or read into the table.
use Rattle.std.specs.Prelude.{Ok, Err}
use mathlib.Core.Path.{◌≡◌, refl}
use borrow.Author.Rules.{rules}
use Rattle.own_words.specs.Laws.{under_read, under_unread}
use Rattle.translate.proofs.translate_rows_in.Goals as goal

pub returns-in_err-table : goal.returns-in_err-table
returns-in_err-table c =
    let no : c.read.result ≡ Err c.in_err-table.field-0.0 = search rules in
    let gone : c.from_residual.result ≡ Err c.in_err-table.field-0.0 = search rules in
    under_unread c.read.ensures no (gone, refl, refl)

pub returns : goal.returns
returns c =
    let read : c.read.result ≡ Ok c.in_ok-table.table = search rules in
    under_read c.read.ensures read c.rows_with.ensures
