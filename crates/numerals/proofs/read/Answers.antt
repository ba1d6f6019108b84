-- `read` meets its contract: the first byte says whether the digits stand behind a minus. Assumes nothing.
use mathlib.Core.Path.{sym, ◌∙◌}
use borrow.Author.Rules.{rules}
use borrow.Author.Tests.{tests}
use Rattle.numerals.specs.Laws.{without_minus}
use Rattle.numerals.proofs.ReadingLaws.{nothing, with_minus}
use Rattle.numerals.proofs.read.Goals as goal

pub returns-then-is_empty : goal.returns-then-is_empty
returns-then-is_empty c = sym (nothing c.args.bytes.now (search (rules, tests)))

pub returns-then-bytes-eq45 : goal.returns-then-bytes-eq45
returns-then-bytes-eq45 c =
    let bs = c.args.bytes.now in
    c.read_below_zero.ensures ∙ sym (with_minus bs c.if-bytes-eq45.true)

pub returns : goal.returns
returns c =
    let bs = c.args.bytes.now in
    c.read_not_below_zero.ensures ∙ sym (without_minus bs c.if-bytes-eq45.false)
