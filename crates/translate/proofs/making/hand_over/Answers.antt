-- `hand_over` meets its contract: what the check of loops lets pass is put, where both slices have room for it.
use Rattle.std.specs.Prelude.{Ok, Err}
use mathlib.Core.Path.{◌≡◌, refl, sym, ◌∙◌}
use borrow.Author.Rules.{rules}
use Rattle.words.specs.Kinds.{rows_of}
use Rattle.lines.proofs.TableLaws.{refused_into, told_into}
use Rattle.translate.proofs.making.hand_over.Goals as goal

pub returns-in_err-ask_made : goal.returns-in_err-ask_made
returns-in_err-ask_made c =
    let a = c.args in
    let no : c.ask_made.result ≡ Err c.in_err-ask_made.field-0.0 = search rules in
    let gone : c.from_residual.result ≡ Err c.in_err-ask_made.field-0.0 = search rules in
    refused_into (rows_of a.kinds.now a.numbers.now) a.lentkinds.now a.lentnumbers.now (gone ∙ sym no ∙ c.ask_made.ensures) gone

pub returns : goal.returns
returns c =
    let told : c.ask_made.result ≡ Ok c.in_ok-ask_made.field-0 = search rules in
    told_into (sym c.ask_made.ensures ∙ told) refl c.hand_over.ensures
