-- `words::same` meets its contract. The loop's invariant: the letters passed are the row's. Lists of one length that agree
-- at every place are equal.
use mathlib.Core.Path.{◌≡◌}
use Prim.Native.Nat.{ℕ, ◌<◌}
use lib.ListN.{get_or}
use Rattle.words.proofs.same.Given as goal

abbrev pub invariant-loop-i : goal.invariant-loop-i
invariant-loop-i l = (k : ℕ) → k < l.i → get_or l.letters k 0 ≡ get_or l.row k 0
