-- `look_up_in` meets its contract: the words text is refused, or read into the table that is searched.
use Rattle.std.specs.Prelude.{Ok, Err}
use mathlib.Core.Path.{◌≡◌, refl}
use borrow.Author.Rules.{rules}
use Rattle.own_words.specs.Laws.{under_read, under_unread}
use Rattle.own_words.proofs.look_up_in.Goals as goal

pub returns-in_err-table : goal.returns-in_err-table
returns-in_err-table c =
    let refused : c.read.result ≡ Err c.in_err-table.field-0.0 = search rules in
    under_unread c.read.ensures refused (search rules)

pub returns : goal.returns
returns c =
    let read : c.read.result ≡ Ok c.in_ok-table.table = search rules in
    under_read c.read.ensures read (c.find.result, refl, c.find.ensures)
