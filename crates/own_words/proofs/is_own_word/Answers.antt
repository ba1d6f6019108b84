-- `is_own_word` meets its contract.
use native.Mathlib.Omega.{arith}
use borrow.Author.Rules.{rules}
use borrow.Author.Tests.{tests}
use Rattle.own_words.proofs.Letters.{no_letters, many_letters, own_letters}
use Rattle.own_words.proofs.is_own_word.Goals as goal

pub returns-then-is_empty : goal.returns-then-is_empty
returns-then-is_empty c =
    let a = c.args in
    no_letters a.kind a.letters.now (search (rules, tests))

pub returns-then-most_letters-letters : goal.returns-then-most_letters-letters
returns-then-most_letters-letters c =
    let a = c.args in
    many_letters a.kind a.letters.now (omega (arith, c.most_letters.ensures, c.if-most_letters-letters.true))

pub returns : goal.returns
returns c =
    let a = c.args in
    own_letters a.kind a.letters.now (search (rules, tests))
    (omega (arith, c.most_letters.ensures, c.if-most_letters-letters.false)) c.is_lower_case.ensures
