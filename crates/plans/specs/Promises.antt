-- What the entries of `plans` promise for every input: each name stands in the `ensures` of its entry, and the demands are drawn from it.
use Rattle.std.specs.Prelude.{◌≡◌, List, ℕ, ℤ, Err}
use Rattle.refusals.specs.Answers.{Answer}
use Rattle.own_words.specs.Under.{Under}
use Rattle.lines.specs.Lent.{text_rows, TableInto}
use Rattle.typing.specs.Entry.{check_plan_text}

-- [10.16], [10.17] `check_text`: the text and the answer
abbrev pub ChecksPlan : List (List ℕ) → List ℕ → Answer → Type 0
ChecksPlan ws t r = r ≡ check_plan_text ws t

-- [10.16], [10.17] `read_text`, which puts the text's rows after the check: the text, the two slices as lent, the answer, the two slices as
-- left
abbrev pub ReadsPlan : List (List ℕ) → List ℕ → List ℕ → List ℤ → Answer → List ℕ → List ℤ → Type 0
ReadsPlan ws t kinds numbers r kinds' numbers' = TableInto (check_plan_text ws t) (text_rows ws t) kinds numbers r kinds' numbers'

-- [16.6], [16.7] `check_text_in` and `read_text_in`, which are given a words text w: the same with its own words, or its refusal
abbrev pub ChecksPlanIn : List ℕ → List ℕ → Answer → Type 0
ChecksPlanIn w t r = Under w (λ ws. ChecksPlan ws t r) (λ q. r ≡ Err q)

abbrev pub ReadsPlanIn : List ℕ → List ℕ → List ℕ → List ℤ → Answer → List ℕ → List ℤ → Type 0
ReadsPlanIn w t kinds numbers r kinds' numbers' =
    Under w (λ ws. ReadsPlan ws t kinds numbers r kinds' numbers') (λ q. (r ≡ Err q) × (kinds' ≡ kinds) × (numbers' ≡ numbers))
