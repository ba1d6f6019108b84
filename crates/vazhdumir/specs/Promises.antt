-- What the entries for C ([12.1]) promise for every input: each name stands in the `ensures` of its entry, and the demands are drawn
-- from it.
use Rattle.std.specs.Prelude.{◌≡◌, List, ℕ, ℤ}
use Rattle.words.specs.Kinds.{rows_of}
use Rattle.words.specs.Words.{look_up, compared}
use Rattle.store.specs.Cells.{cells_of}
use Rattle.typing.specs.Entry.{check_plan_text}
use Rattle.loops.specs.Check.{check_loops_text, writes_of, need_of}
use Rattle.run.specs.Run.{run_text, run_table}
use Rattle.own_words.specs.Under.{Under}
use Rattle.vazhdumir.specs.Codes.{refusal_code, answer_code, accepted_code, compared_code, ReadCoded, TextCoded, RunCoded}

-- `vazhdumir_check_plan`: the text and the number told
abbrev pub ChecksPlanForC : List (List ℕ) → List ℕ → ℕ → Type 0
ChecksPlanForC ws t r = r ≡ accepted_code (check_plan_text ws t)

-- `vazhdumir_translate`: the plan's text, the text as lent, the number told, the text as left
abbrev pub TranslatesForC : List (List ℕ) → List ℕ → List ℕ → ℕ → List ℕ → Type 0
TranslatesForC ws t lent r lent' = TextCoded ws t lent r lent'

-- `vazhdumir_check_loops` and `vazhdumir_need`: the text and the number told
abbrev pub ChecksLoopsForC : List (List ℕ) → List ℕ → ℕ → Type 0
ChecksLoopsForC ws t r = r ≡ answer_code (writes_of (check_loops_text ws t))

abbrev pub TellsNeedForC : List (List ℕ) → List ℕ → ℕ → Type 0
TellsNeedForC ws t r = r ≡ answer_code (need_of (check_loops_text ws t))

-- `vazhdumir_read_loops`: the text, the two slices as lent, the number told, the two slices as left
abbrev pub ReadsLoopsForC : List (List ℕ) → List ℕ → List ℕ → List ℤ → ℕ → List ℕ → List ℤ → Type 0
ReadsLoopsForC ws t kinds numbers r kinds' numbers' = ReadCoded ws t kinds numbers r kinds' numbers'

-- `vazhdumir_run`: the text, the order, the store as lent, the number told, the store as left
abbrev pub RunsTextForC : List (List ℕ) → List ℕ → ℕ → List ℕ → ℕ → List ℕ → Type 0
RunsTextForC ws t order bytes r bytes' = RunCoded (run_text ws t order (cells_of bytes)) bytes r bytes'

-- `vazhdumir_run_rows`: the kinds, the numbers, the order, the store as lent, the number told, the store as left
abbrev pub RunsRowsForC : List ℕ → List ℤ → ℕ → List ℕ → ℕ → List ℕ → Type 0
RunsRowsForC kinds numbers order bytes r bytes' = RunCoded (run_table (rows_of kinds numbers) order (cells_of bytes)) bytes r bytes'

-- `vazhdumir_look_up`: the word and the number told
abbrev pub LooksUpForC : List (List ℕ) → List ℕ → ℕ → Type 0
LooksUpForC ws l r = r ≡ compared_code (look_up ws l) (compared ws l)

-- [16.6], [16.7] The twins, which are given a words text w: the same with its own words, or its refusal, and what is lent is as it was
abbrev pub ChecksPlanForCIn : List ℕ → List ℕ → ℕ → Type 0
ChecksPlanForCIn w t r = Under w (λ ws. ChecksPlanForC ws t r) (λ q. r ≡ refusal_code q)

abbrev pub TranslatesForCIn : List ℕ → List ℕ → List ℕ → ℕ → List ℕ → Type 0
TranslatesForCIn w t lent r lent' = Under w (λ ws. TranslatesForC ws t lent r lent') (λ q. (r ≡ refusal_code q) × (lent' ≡ lent))

abbrev pub ChecksLoopsForCIn : List ℕ → List ℕ → ℕ → Type 0
ChecksLoopsForCIn w t r = Under w (λ ws. ChecksLoopsForC ws t r) (λ q. r ≡ refusal_code q)

abbrev pub TellsNeedForCIn : List ℕ → List ℕ → ℕ → Type 0
TellsNeedForCIn w t r = Under w (λ ws. TellsNeedForC ws t r) (λ q. r ≡ refusal_code q)

abbrev pub ReadsLoopsForCIn : List ℕ → List ℕ → List ℕ → List ℤ → ℕ → List ℕ → List ℤ → Type 0
ReadsLoopsForCIn w t kinds numbers r kinds' numbers' =
    Under w (λ ws. ReadsLoopsForC ws t kinds numbers r kinds' numbers') (λ q. (r ≡ refusal_code q) × (kinds' ≡ kinds) × (numbers' ≡ numbers))

abbrev pub RunsTextForCIn : List ℕ → List ℕ → ℕ → List ℕ → ℕ → List ℕ → Type 0
RunsTextForCIn w t order bytes r bytes' = Under w (λ ws. RunsTextForC ws t order bytes r bytes') (λ q. (r ≡ refusal_code q) × (bytes' ≡ bytes))

abbrev pub LooksUpForCIn : List ℕ → List ℕ → ℕ → Type 0
LooksUpForCIn w l r = Under w (λ ws. LooksUpForC ws l r) (λ q. r ≡ refusal_code q)
