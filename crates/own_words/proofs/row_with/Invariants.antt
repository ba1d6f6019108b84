-- `row_with` meets its contract. The loop's invariant: the letters passed are put, and their count.
use mathlib.Core.Path.{◌≡◌}
use Prim.Native.Nat.{ℕ, ◌+◌, ◌≤◌, ◌<◌}
use lib.ListN.{length, get_or}
use Rattle.own_words.proofs.row_with.Given as goal

abbrev pub invariant-loop-i : goal.invariant-loop-i
invariant-loop-i l = (l.i ≤ 8) × (length l.own ≡ 19) × (get_or l.own 8 0 ≡ 48 + length l.letters) × ((j : ℕ) → j < l.i → get_or l.own j 0 ≡ get_or l.letters j 32)
