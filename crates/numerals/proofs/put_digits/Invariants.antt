-- `put_digits` meets its contract: the digits from `at` up to `end` are still to be put, and are the last ones of `rest` (`padded`).
-- Assumes nothing.
use mathlib.Core.Path.{◌≡◌}
use Prim.Native.Nat.{◌-◌, ◌≤◌}
use lib.IntN.{pos}
use lib.ListN.{length}
use lib.Seq.{sets}
use Rattle.numerals.specs.Numerals.{decimal}
use Rattle.numerals.proofs.PuttingLaws.{padded}
use Rattle.numerals.proofs.put_digits.Given as goal

abbrev pub invariant-loop-end : goal.invariant-loop-end
invariant-loop-end l = (l.at ≤ l.end) × (length l.text ≡ length l.initial.text) × (sets l.text l.at (padded (l.end - l.at) l.rest) ≡ sets l.initial.text l.at (decimal (pos l.value)))

abbrev pub decreases-loop-end : goal.decreases-loop-end
decreases-loop-end l = l.end - l.at
