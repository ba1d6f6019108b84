-- What the entries of `programs` promise for every input: each name stands in the `ensures` of its entry, and the demands are drawn
-- from it.
use Rattle.std.specs.Prelude.{Bool, ◌≡◌, List, ℕ, ℤ}
use Rattle.refusals.specs.Answers.{Answer}
use Rattle.own_words.specs.Under.{Under}
use Rattle.programs.specs.Printed.{refusal_text, translator_text, PutInto}
use Rattle.programs.specs.Runner.{reads_values, ShownInto, RunnerInto}

-- [11.1], [11.9] `translator`: the plan's text, the text as lent, the answer, the text as left
abbrev pub PrintsLoops : List (List ℕ) → List ℕ → List ℕ → Answer → List ℕ → Type 0
PrintsLoops ws t lent r lent' = PutInto (translator_text ws t) lent r lent'

-- [11.7], [11.9] `runner`: the loops' text, the values' text, the store and the text as lent, the answer, the store and the text as left
abbrev pub PrintsRun : List (List ℕ) → List ℕ → List ℕ → List ℤ → List ℕ → Answer → List ℤ → List ℕ → Type 0
PrintsRun ws t v store lent r store' lent' = RunnerInto ws t v store lent r store' lent'

-- [11.5] `reads_values`: the loops' text and the answer
abbrev pub SaysValuesRead : List ℕ → Bool → Type 0
SaysValuesRead t r = r ≡ reads_values t

-- [16.8] `translator_in` and `runner_in`, which are given a words text w: the same with its own words, or its refusal is all that is
-- printed
abbrev pub PrintsLoopsIn : List ℕ → List ℕ → List ℕ → Answer → List ℕ → Type 0
PrintsLoopsIn w t lent r lent' = Under w (λ ws. PrintsLoops ws t lent r lent') (λ q. PutInto (refusal_text q) lent r lent')

abbrev pub PrintsRunIn : List ℕ → List ℕ → List ℕ → List ℤ → List ℕ → Answer → List ℤ → List ℕ → Type 0
PrintsRunIn w t v store lent r store' lent' =
    Under w (λ ws. PrintsRun ws t v store lent r store' lent') (λ q. ShownInto (refusal_text q) store store lent r store' lent')
