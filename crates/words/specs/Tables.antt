-- A table of words as the code holds it: a row of bytes for each word, which begins with up to eight letters; byte 8 is the digit of their
-- count. What the contracts of parts say of the table that they are lent. Definitions only; assumes nothing.
use Rattle.std.specs.Prelude.{cond, List, [], ◌∷◌, map, ℕ, zero, suc, ◌-◌, min, ltb, length, get_or}
use Rattle.words.specs.Words.{bytes, words}

-- the first n of a list, with d where it has no more
unfoldable pub first_of : {A : Type 0} → A → ℕ → List A → List A
first_of d zero l = []
first_of d (suc n) [] = d ∷ first_of d n []
first_of d (suc n) (x ∷ l) = x ∷ first_of d n l

-- how many letters a row's word has, by byte 8 of the row, whatever that is: eight at most
abbrev pub letters_by : ℕ → ℕ
letters_by byte = min (byte - 48) 8

abbrev pub letters_in : List ℕ → ℕ
letters_in row = letters_by (get_or row 8 0)

-- a row's word: every row has one
abbrev pub word_in : List ℕ → List ℕ
word_in row = first_of 0 (letters_in row) row

-- [2.2] the words of a table's rows, as many as there are words
unfoldable pub words_in : List (List ℕ) → List (List ℕ)
words_in rows = map word_in (first_of [] (length words) rows)

-- the row of a place; past the words' count one with no letters
abbrev pub no_word : List ℕ
no_word = bytes "        0 ---------"

abbrev pub row_in : List (List ℕ) → ℕ → List ℕ
row_in rows k = cond (ltb k (length words)) (get_or rows k []) no_word
