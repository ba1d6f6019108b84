-- Examples of words texts, each with the number that is answered to it, 0 where it is accepted: [16.1], [16.2], [16.4] to [16.6]. Computed on
-- `ask_words`. Facts about the definitions, none of them a definition to believe; assumes nothing.
use Rattle.std.specs.Prelude.{◌≡◌, refl, List, [], ◌∷◌, ◌++◌, map, ℕ, ◌-◌, length, take, set, Ok, Err}
use Rattle.refusals.specs.Answers.{Answer}
use Prim.Native.String.{String}
use Rattle.words.specs.Kinds.{word_plan, word_num, word_arr, word_lit, word_loops, word_set, word_rest}
use Rattle.words.specs.Good.{distinct, absent}
use Rattle.words.specs.Words.{bytes, words, table, same_letters}
use Rattle.texts.specs.Texts.{lines_of, place_of}
use Rattle.refusals.specs.Refusals.{refusal_number}
use Rattle.own_words.specs.OwnWords.{is_own_word, is_own_line, are_own_lines, is_words_text, own_words, ask_words}
use Rattle.own_words.specs.Laws.{lines_with}
use Rattle.own_words.specs.Theorems.{words_text}

-- the built-in words, one of them replaced
abbrev put : ℕ → List ℕ → List (List ℕ)
put k w = set words k w

abbrev own : ℕ → String → List (List ℕ)
own k w = put k (bytes w)

-- two of them replaced
abbrev own₂ : ℕ → String → ℕ → String → List (List ℕ)
own₂ j v k w = set (own j v) k (bytes w)

abbrev number : Answer → ℕ
number (Ok n) = 0
number (Err q) = refusal_number q

-- [16.1] A text, by the lines that it has, and how it is answered.
abbrev texts : List (List ℕ × ℕ)
texts =
    (words_text words, 0)
    ∷ ([], 16)
    -- the first two lines in the other order
    ∷ (lines_with (own₂ word_plan "num" word_num "plan") (own₂ word_plan "num" word_num "plan"), 16)
    -- the last byte 10 not there; one more; a byte 13 before it
    ∷ (take (length (words_text words) - 1) (words_text words), 16)
    ∷ (words_text words ++ (10 ∷ []), 16)
    ∷ (words_text (put word_rest (bytes "rest" ++ (13 ∷ []))), 16)
    -- a line too few; a line too many; one for the other
    ∷ (lines_with (take 37 words) words, 16)
    ∷ (words_text words ++ (bytes "plan,other" ++ (10 ∷ [])), 16)
    ∷ (lines_with (take 37 words) words ++ (bytes "plan,other" ++ (10 ∷ [])), 16)
    ∷ []

-- [16.2], [16.5] Own words, and how their text is answered.
abbrev tables : List (List (List ℕ) × ℕ)
tables =
    (own word_plan "abcdefgh", 0)
    ∷ (own word_plan "abcdefghi", 16)
    ∷ (own word_plan "a1", 16)
    ∷ (own word_plan "Plan", 16)
    ∷ (own word_plan "a b", 16)
    ∷ (own word_plan "a,b", 16)
    ∷ (own word_plan "", 16)
    ∷ (put word_plan (112 ∷ 108 ∷ 228 ∷ 110 ∷ []), 16)
    ∷ (own word_lit "abc", 0)
    ∷ (own word_lit "abcd", 16)
    ∷ (own word_plan "num", 17)
    ∷ (own₂ word_plan "x" word_set "x", 17)
    ∷ (own₂ word_plan "x" word_set "xx", 0)
    ∷ (own₂ word_plan "loops" word_loops "plan", 0)
    ∷ (own₂ word_num "no" word_arr "writes", 0)
    -- [16.6] two alike, and a line that is none
    ∷ (own₂ word_plan "num" word_rest "9", 16)
    ∷ []

texts_answered : map (λ (e : List ℕ × ℕ). number (ask_words e.0)) texts ≡ map (λ (e : List ℕ × ℕ). e.1) texts
unfolding lines_with words table ask_words is_words_text are_own_lines is_own_line is_own_word own_words distinct absent same_letters lines_of place_of
texts_answered = refl

tables_answered : map (λ (e : List (List ℕ) × ℕ). number (ask_words (words_text e.0))) tables ≡ map (λ (e : List (List ℕ) × ℕ). e.1) tables
unfolding lines_with words table ask_words is_words_text are_own_lines is_own_line is_own_word own_words distinct absent same_letters lines_of place_of
tables_answered = refl
