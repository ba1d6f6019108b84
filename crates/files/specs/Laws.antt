-- Laws of bytes counted. Assumes nothing.
use Rattle.std.specs.Prelude.{◌≡◌, refl, List, ℕ, ◌≤◌, length, take, Ok, Err, Option, Some}
use Rattle.refusals.specs.Answers.{Answer}
use Rattle.std.proofs.Common.{subst}
use Rattle.files.specs.Files.{Counted, Within}

pub file_counts : (f : Option ℕ) (text : List ℕ) (n : ℕ) → Counted f text → f ≡ Some n → (n ≤ length text) × (n ≡ length (take n text))
file_counts f text n h e = subst (λ (x : Option ℕ). Counted x text) e h

pub put_is_within : (r : Answer) (text : List ℕ) → ((n : ℕ) → r ≡ Ok n → n ≤ length text) → Within r text
put_is_within (Ok n) text h = h n refl
put_is_within (Err q) text h = tt
