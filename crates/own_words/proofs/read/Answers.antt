-- `read` meets its contract: each way out is one question's answer.
use Rattle.std.specs.Prelude.{Some, None, Err}
use mathlib.Core.Path.{◌≡◌, sym, subst}
use borrow.Author.Rules.{rules}
use borrow.Author.Tests.{tests}
use Rattle.refusals.specs.declared.Refusal.TheVariants.{WordsForm}
use Rattle.own_words.specs.OwnWords.{TakesLines}
use Rattle.own_words.specs.Promises.{ReadsWords}
use Rattle.own_words.proofs.Answers.{nothing_closed, not_closed, not_lines, two_alike, all_read}
use Rattle.own_words.proofs.read.Goals as goal

pub returns-then-is_empty : goal.returns-then-is_empty
returns-then-is_empty c =
    let text = c.args.text.now in
    not_closed text (nothing_closed text (search (rules, tests)))

pub returns-then-last-ne10 : goal.returns-then-last-ne10
returns-then-last-ne10 c = not_closed c.args.text.now c.if-last-ne10.true

pub returns-in_err-table : goal.returns-in_err-table
returns-in_err-table c =
    let none : c.own_table.result ≡ None = search rules in
    let refused : c.from_residual.result ≡ Err WordsForm = search rules in
    subst (ReadsWords c.args.text.now) (sym refused) (not_lines c.args.text.now (subst (TakesLines c.args.text.now) none c.own_table.ensures))

pub returns-then-not-are_distinct : goal.returns-then-not-are_distinct
returns-then-not-are_distinct c =
    let taken : c.own_table.result ≡ Some c.in_ok-table.table = search rules in
    two_alike c.args.text.now c.in_ok-table.table c.if-last-ne10.false (subst (TakesLines c.args.text.now) taken c.own_table.ensures)
    c.are_distinct.ensures c.if-not-are_distinct.true

pub returns : goal.returns
returns c =
    let taken : c.own_table.result ≡ Some c.in_ok-table.table = search rules in
    all_read c.args.text.now c.in_ok-table.table c.if-last-ne10.false (subst (TakesLines c.args.text.now) taken c.own_table.ensures)
    c.are_distinct.ensures c.if-not-are_distinct.false
