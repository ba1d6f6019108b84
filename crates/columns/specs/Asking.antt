-- Question 9 over rows ([10.9]): the first place or reading whose answer is "no". Definitions only; assumes nothing.
use Rattle.std.specs.Prelude.{Bool, true, false, cond, ◌||◌, List, ℕ, zero, suc, ◌+◌, eqb, ltb, leb, ℤ, pos, get_or, Result, Ok, Err}
use Rattle.std.proofs.Math.Option.{Option, none, some}
use Rattle.refusals.specs.declared.Refusal.{Refusal}
use Rattle.refusals.specs.declared.Refusal.TheVariants.{OffsetBound}
use Rattle.words.specs.Kinds.{word_kind_in, word_out, word_loc}
use Rattle.meaning.specs.Runs.{entry}
use Rattle.syntax.specs.Ranges.{as_natural}

-- the cells of what a place or a reading goes into, m being those of the region that it names
unfoldable pub cells_by : ℕ → ℕ → ℕ → List ℕ → ℕ → ℕ
cells_by k n m ins out = cond (eqb k word_kind_in) (entry ins n) (cond (eqb k word_loc) m out)

-- a place or a reading
unfoldable pub is_access : ℕ → Bool
is_access k = eqb k word_kind_in || eqb k word_loc || eqb k word_out

-- "no" on a row: it is a place or a reading, and the bound v of its offset is too large
unfoldable pub no_by : ℕ → ℕ → ℕ → ℕ → List ℕ → ℕ → Bool
no_by k n m v ins out = cond (is_access k) (cond (ltb 65535 v) true (leb (cells_by k n m ins out) v)) false

-- row p of a table: ms has the numbers of the rows that are named, fs the bounds
abbrev pub no_at : List ℕ → List ℤ → List ℕ → List ℕ → List ℕ → ℕ → ℕ → Bool
no_at ks ns ms fs ins out p = no_by (get_or ks p 0) (as_natural (get_or ns p (pos 0))) (get_or ms p 0) (get_or fs (p + 1) 0) ins out

-- [10.17] the first "no" of n rows from row q on; row q stands on line q + 1
unfoldable pub first_from : (ℕ → Bool) → ℕ → ℕ → Option Refusal
first_from bad q zero = none
first_from bad q (suc n) = cond (bad q) (some (OffsetBound (q + 1))) (first_from bad (q + 1) n)

-- the answer x, or else the first "no"
abbrev pub told : {A : Type 0} → A → Option Refusal → Result A Refusal
told x none = Ok x
told x (some q) = Err q
