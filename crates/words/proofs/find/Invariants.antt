-- `words::find` meets its contract. The loop's invariant: what is found is what is found from the present word on. How many rows were compared
-- follows from where the loop ends.
use mathlib.Core.Path.{◌≡◌}
use lib.ListN.{drop}
use Rattle.words.specs.Tables.{words_in}
use Rattle.words.specs.Words.{look_from, look_up}
use Rattle.words.proofs.find.Given as goal

abbrev pub invariant-loop-place : goal.invariant-loop-place
invariant-loop-place l = look_up (words_in l.table) l.letters ≡ look_from l.place (drop l.place (words_in l.table)) l.letters
