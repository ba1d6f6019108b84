-- A words text: [16.1], [16.2]; its own words; and the questions put to it: [16.4] to [16.6]. Definitions only; assumes nothing.
use Rattle.std.specs.Prelude.{◌≡◌, Bool, true, false, cond, ◌&&◌, Option, Some, None, List, [], ◌∷◌, map, ℕ, suc, ◌-◌, eqb, leb, length, get_or, Ok, Err}
use Rattle.refusals.specs.Answers.{Answer}
use Rattle.words.specs.Kinds.{word_lit}
use Rattle.words.specs.Tables.{words_in}
use Rattle.words.specs.Words.{words, same_letters}
use Rattle.words.specs.Good.{lower_case, distinct}
use Rattle.texts.specs.Texts.{lines_of, before_comma, after_comma}
use Rattle.refusals.specs.declared.Refusal.TheVariants.{WordsForm, WordTwice}

-- [16.2] how many letters the own word of kind k may have
abbrev pub most_letters : ℕ → ℕ
most_letters k = cond (eqb k word_lit) 3 8

-- [16.2] an own word of kind k
unfoldable pub is_own_word : ℕ → List ℕ → Bool
is_own_word k w = lower_case w && leb 1 (length w) && leb (length w) (most_letters k)

-- [16.1] a line: the built-in word of kind k before the comma, an own word behind it
unfoldable pub is_own_line : ℕ → List ℕ → List ℕ → Bool
is_own_line k built_in l = same_letters (before_comma l) built_in && is_own_word k (after_comma l)

-- [16.1] a line for each of the built-in words, which are of the kinds from k on, and none besides
unfoldable pub are_own_lines : ℕ → List (List ℕ) → List (List ℕ) → Bool
are_own_lines k [] [] = true
are_own_lines k [] (l ∷ ls) = false
are_own_lines k (h ∷ hs) [] = false
are_own_lines k (h ∷ hs) (l ∷ ls) = is_own_line k h l && are_own_lines (suc k) hs ls

-- [16.1] a words text: such lines, in the order of [2.2], the last one closed by byte 10 too
unfoldable pub is_words_text : List ℕ → Bool
is_words_text t = eqb (get_or t (length t - 1) 0) 10 && are_own_lines 0 words (lines_of t)

-- [16.3] the own words of a words text, in the order of the kinds
unfoldable pub own_words : List ℕ → List (List ℕ)
own_words t = map after_comma (lines_of t)

-- [16.1] The table that is taken from the lines of the text t: they are those of a words text, and it has their own words; or they are not.
abbrev pub TakesLines : List ℕ → Option (List (List ℕ)) → Type 0
TakesLines t (Some table) = (are_own_lines 0 words (lines_of t) ≡ true) × (words_in table ≡ map after_comma (lines_of t))
TakesLines t None = are_own_lines 0 words (lines_of t) ≡ false

-- [16.4], then [16.5]: how many words there are, or the "no"
unfoldable pub ask_words : List ℕ → Answer
ask_words t = cond (is_words_text t) (cond (distinct (own_words t)) (Ok (length words)) (Err WordTwice)) (Err WordsForm)
