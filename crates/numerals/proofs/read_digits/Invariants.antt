-- `read_digits` meets its contract: what the digits not passed say behind those passed is what they all say (`onward`), and a number
-- past `most` stays past it. Assumes nothing.
use mathlib.Core.Path.{◌≡◌}
use Prim.Native.Nat.{◌≤◌}
use lib.ListN.{drop}
use Rattle.numerals.specs.Numerals.{unsigned}
use Rattle.numerals.specs.Magnitudes.{at_most}
use Rattle.numerals.proofs.ReadingLaws as laws
use Rattle.numerals.proofs.read_digits.Given as goal

abbrev pub invariant-loop-byte : goal.invariant-loop-byte
invariant-loop-byte l = (l.value ≤ l.most) × (laws.onward l.most l.value (drop l.byte-index l.digits) ≡ at_most l.most (unsigned l.digits))
