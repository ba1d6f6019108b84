-- Bytes counted are within a text: what reading a file promises, and what printing asks. Definitions only; assumes nothing.
use Rattle.std.specs.Prelude.{List, ◌≡◌, ℕ, ◌≤◌, length, take, Ok, Err, Option, Some, None}
use Rattle.refusals.specs.Answers.{Answer}

-- The second part follows from the first; both are said, so that a part of the text can be lent without a proof.
abbrev pub Counted : Option ℕ → List ℕ → Type 0
Counted (Some n) text = (n ≤ length text) × (n ≡ length (take n text))
Counted None text = Unit {0}

abbrev pub Within : Answer → List ℕ → Type 0
Within (Ok n) text = n ≤ length text
Within (Err q) text = Unit {0}
