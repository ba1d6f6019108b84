-- `words::row_in` meets its contract.
use native.Mathlib.Omega.{arith}
use borrow.Author.Tests.{lt-ltb, le-ltb}
use lib.ListN.{length}
use Rattle.words.proofs.Laws.{words_count}
use Rattle.words.specs.Words.{words}
use Rattle.words.proofs.row_in.Goals as goal

pub returns-then-place-ge-WORD_COUNT : goal.returns-then-place-ge-WORD_COUNT
returns-then-place-ge-WORD_COUNT c = rw (le-ltb c.args.place (length words) (omega (arith, words_count, c.if-place-ge-WORD_COUNT.true)))

pub returns : goal.returns
returns c = rw (lt-ltb c.args.place (length words) (omega (arith, words_count, c.if-place-ge-WORD_COUNT.false)))
