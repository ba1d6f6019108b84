-- What the entries of `translate` promise for every input: each name stands in the `ensures` of its entry, and the demands are drawn
-- from it.
use Rattle.std.specs.Prelude.{◌≡◌, List, ℕ, ℤ, Err}
use Rattle.refusals.specs.Answers.{Answer}
use Rattle.own_words.specs.Under.{Under}
use Rattle.lines.specs.Lent.{TableInto}
use Rattle.translate.specs.Entry.{rows_made, make_text, TextInto}

-- [10.16], [10.17] `translate_rows`: the plan's text, the two slices as lent, the answer, the two slices as left
abbrev pub TranslatesRows : List (List ℕ) → List ℕ → List ℕ → List ℤ → Answer → List ℕ → List ℤ → Type 0
TranslatesRows ws t kinds numbers r kinds' numbers' = TableInto (make_text ws t) (rows_made ws t) kinds numbers r kinds' numbers'

-- [10.16], [10.17] `translate_text`: the plan's text, the text as lent, the answer, the text as left
abbrev pub TranslatesText : List (List ℕ) → List ℕ → List ℕ → Answer → List ℕ → Type 0
TranslatesText ws t lent r lent' = TextInto ws (make_text ws t) (rows_made ws t) lent r lent'

-- [16.6], [16.7] `translate_rows_in` and `translate_text_in`, which are given a words text w: the same with its own words, or its refusal
abbrev pub TranslatesRowsIn : List ℕ → List ℕ → List ℕ → List ℤ → Answer → List ℕ → List ℤ → Type 0
TranslatesRowsIn w t kinds numbers r kinds' numbers' =
    Under w (λ ws. TranslatesRows ws t kinds numbers r kinds' numbers') (λ q. (r ≡ Err q) × (kinds' ≡ kinds) × (numbers' ≡ numbers))

abbrev pub TranslatesTextIn : List ℕ → List ℕ → List ℕ → Answer → List ℕ → Type 0
TranslatesTextIn w t lent r lent' = Under w (λ ws. TranslatesText ws t lent r lent') (λ q. (r ≡ Err q) × (lent' ≡ lent))
