-- What the entries of `loops` promise for every input: each name stands in the `ensures` of its entry, and the demands are drawn from it.
use Rattle.std.specs.Prelude.{◌≡◌, List, ℕ, ℤ, Err}
use Rattle.loops.specs.Checked.{Checked}
use Rattle.refusals.specs.Answers.{Answer}
use Rattle.own_words.specs.Under.{Under}
use Rattle.words.specs.Kinds.{rows_of}
use Rattle.lines.specs.Lent.{text_rows, TableInto}
use Rattle.loops.specs.Check.{check_table, check_loops_text, need_of}

-- [10.16], [10.17] `check_text`: the text and the answer
abbrev pub ChecksLoops : List (List ℕ) → List ℕ → Checked → Type 0
ChecksLoops ws t r = r ≡ check_loops_text ws t

-- [10.16], [10.17] `check_table`: the kinds, the numbers and the answer
abbrev pub ChecksTable : List ℕ → List ℤ → Checked → Type 0
ChecksTable kinds numbers r = r ≡ check_table (rows_of kinds numbers)

-- [7.4], [10.16] `need_text`: the text and the answer
abbrev pub TellsNeed : List (List ℕ) → List ℕ → Answer → Type 0
TellsNeed ws t r = r ≡ need_of (check_loops_text ws t)

-- [10.16], [10.17] `read_text`, which puts the text's rows after the same questions: the text, the two slices as lent, the answer, the two
-- slices as left
abbrev pub ReadsLoops : List (List ℕ) → List ℕ → List ℕ → List ℤ → Answer → List ℕ → List ℤ → Type 0
ReadsLoops ws t kinds numbers r kinds' numbers' = TableInto (need_of (check_loops_text ws t)) (text_rows ws t) kinds numbers r kinds' numbers'

-- [16.6], [16.7] `check_text_in`, `need_text_in` and `read_text_in`, which are given a words text w: the same with its own words, or its
-- refusal
abbrev pub ChecksLoopsIn : List ℕ → List ℕ → Checked → Type 0
ChecksLoopsIn w t r = Under w (λ ws. ChecksLoops ws t r) (λ q. r ≡ Err q)

abbrev pub TellsNeedIn : List ℕ → List ℕ → Answer → Type 0
TellsNeedIn w t r = Under w (λ ws. TellsNeed ws t r) (λ q. r ≡ Err q)

abbrev pub ReadsLoopsIn : List ℕ → List ℕ → List ℕ → List ℤ → Answer → List ℕ → List ℤ → Type 0
ReadsLoopsIn w t kinds numbers r kinds' numbers' =
    Under w (λ ws. ReadsLoops ws t kinds numbers r kinds' numbers') (λ q. (r ≡ Err q) × (kinds' ≡ kinds) × (numbers' ≡ numbers))
