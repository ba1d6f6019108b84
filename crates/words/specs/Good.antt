-- Which tables of words can be read and printed with: those that are like the table of [2.2] in what the reading of [1.2] and the
-- printing of [1.9] rest on. The tests are computed. Definitions only; assumes nothing.
use Rattle.std.specs.Prelude.{Bool, true, not, ◌&&◌, ◌≡◌, List, [], ◌∷◌, ℕ, ◌≤◌, T, leb, length}
use Rattle.words.specs.Kinds.{word_lit}
use Rattle.words.specs.Words.{words, word_at, same_letters}

-- [2.2] no two places of a table have the same word
unfoldable pub absent : List ℕ → List (List ℕ) → Bool
absent l [] = true
absent l (w ∷ ws) = not (same_letters l w) && absent l ws

unfoldable pub distinct : List (List ℕ) → Bool
distinct [] = true
distinct (w ∷ ws) = absent w ws && distinct ws

-- letters a to z
abbrev pub lower_case : List ℕ → Bool
lower_case [] = true
lower_case (b ∷ bs) = leb 97 b && leb b 122 && lower_case bs

-- every word of a table has 1 to 8 of them
unfoldable pub well_formed : List (List ℕ) → Bool
well_formed [] = true
well_formed (w ∷ ws) = lower_case w && leb 1 (length w) && leb (length w) 8 && well_formed ws

-- A good table has as many words as the built-in one, distinct, of 1 to 8 letters, that of `lit` at most 3, so that the longest texts
-- still keep to [10.1].
pub record Good (ws : List (List ℕ)) : Type 0 where
  pub count : length ws ≡ length words
  pub apart : T (distinct ws)
  pub formed : T (well_formed ws)
  pub literal : length (word_at ws word_lit) ≤ 3
