-- `put_word` meets its contract. The loop's invariant: what is stored and the letters still to come make up the word.
use mathlib.Core.Path.{◌≡◌}
use lib.ListN.{drop}
use Prim.Native.Nat.{◌+◌}
use lib.Seq.{sets}
use Rattle.words.specs.Tables.{words_in}
use Rattle.words.specs.Words.{word_at}
use Rattle.lines.proofs.printer.put_word.Given as goal

abbrev pub invariant-loop-i : goal.invariant-loop-i
invariant-loop-i l = sets l.text (l.at + l.i) (drop l.i (word_at (words_in l.table) l.kind)) ≡ sets l.initial.text l.at (word_at (words_in l.table) l.kind)
