-- A table's words and its rows: the word of a kind is that of the row at its place. Assumes nothing.
use mathlib.Core.Path.{◌≡◌, refl, sym, ap, ◌∙◌}
use mathlib.Core.Bool.{Bool, true, false, cond, ◌&&◌}
use mathlib.Core.List.{List, [], ◌∷◌}
use Prim.Native.Nat.{ℕ, ◌<◌, ◌≤◌}
use native.Mathlib.Omega.{arith}
use borrow.Author.Tests.{ltb-true, ltb-false}
use lib.Dec.{eqb, ltb}
use lib.Pointwise.{pointwise}
use lib.ListN.{length, take, get_or, get_or-map, get_or-eq_default}
use Rattle.words.proofs.Laws.{words_in_count, first_count, first_at, first_take}
use Rattle.words.specs.Tables.{first_of, letters_in, word_in, words_in, no_word, row_in}
use Rattle.words.specs.Words.{words, word_at, same_letters}

-- of a place below the words' count
pub word_in_row : (rows : List (List ℕ)) (k : ℕ) → k < length words → word_at (words_in rows) k ≡ word_in (get_or rows k [])
unfolding words_in first_of
word_in_row rows k h =
    get_or-map word_in (first_of [] (length words) rows) k [] ∙ ap (λ (row : List ℕ). word_in row) (first_at [] (length words) rows k h)

pub word_of_row : (rows : List (List ℕ)) (k : ℕ) → word_at (words_in rows) k ≡ word_in (row_in rows k)
unfolding first_of
word_of_row rows k = go (ltb k (length words)) refl
  where
    go : (b : Bool) → ltb k (length words) ≡ b → word_at (words_in rows) k ≡ word_in (cond b (get_or rows k []) no_word)
    go true e = word_in_row rows k (ltb-true k (length words) e)
    go false e = get_or-eq_default (words_in rows) [] (omega (arith, words_in_count rows, ltb-false k (length words) e))

-- a word has as many letters as its row counts, and they are the row's
pub row_letters : (row : List ℕ) → length (word_in row) ≡ letters_in row
row_letters row = first_count 0 (letters_in row) row

pub row_letter : (row : List ℕ) (i : ℕ) → i < letters_in row → get_or (word_in row) i 0 ≡ get_or row i 0
row_letter row i h = first_at 0 (letters_in row) row i h

-- so the row begins with its word
pub word_taken : (row : List ℕ) (n : ℕ) → n ≡ letters_in row → n ≤ length row → take n row ≡ word_in row
word_taken row n e h = sym (first_take 0 n row h) ∙ ap (λ (m : ℕ). first_of 0 m row) e

-- ---- slices are compared as words are

pub same_pointwise : (ls ws : List ℕ) → pointwise eqb ls ws ≡ same_letters ls ws
unfolding same_letters
same_pointwise [] [] = refl
same_pointwise [] (w ∷ ws) = refl
same_pointwise (l ∷ ls) [] = refl
same_pointwise (l ∷ ls) (w ∷ ws) = ap (λ (b : Bool). eqb l w && b) (same_pointwise ls ws)
