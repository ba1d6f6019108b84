-- `are_distinct` meets its contract. The loop's invariant: each word passed is found at its own place.
use Rattle.std.specs.Prelude.{Some}
use mathlib.Core.Path.{◌≡◌}
use Prim.Native.Nat.{ℕ, ◌≤◌, ◌<◌}
use lib.ListN.{length}
use Rattle.words.specs.Tables.{words_in}
use Rattle.words.specs.Words.{words, word_at, look_up}
use Rattle.own_words.proofs.are_distinct.Given as goal

abbrev pub invariant-loop-kind : goal.invariant-loop-kind
invariant-loop-kind l = (l.kind ≤ length words) × ((i : ℕ) → i < l.kind → look_up (words_in l.table) (word_at (words_in l.table) i) ≡ Some i)
