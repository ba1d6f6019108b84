-- `most_letters` meets its contract.
use borrow.Author.Tests.{eq-eqb, ne_eqb}
use Rattle.words.specs.Kinds.{word_lit}
use Rattle.own_words.proofs.most_letters.Goals as goal

pub returns-then-kind : goal.returns-then-kind
returns-then-kind c = rw (eq-eqb c.args.kind word_lit c.if-kind.true)

pub returns : goal.returns
returns c = rw (ne_eqb c.args.kind word_lit c.if-kind.false)
