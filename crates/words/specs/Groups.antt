-- Groups of words, by the table or by a list of their kinds: no test goes by the order of the words. Definitions only; assumes nothing.
use Rattle.std.specs.Prelude.{Bool, true, false, cond, List, [], ◌∷◌, ℕ, eqb, ltb, length, Option, Some, None}
use Rattle.words.specs.Kinds.{word_add, word_sub, word_mul, word_div, word_min, word_max, word_mappar, word_mapseq, word_for, word_par}
use Rattle.words.specs.Kinds.{word_mapvec, word_lanes}
use Rattle.words.specs.Words.{words, operands_of}
use Rattle.words.specs.declared.Sort.TheVariants.{Term}

-- whether a kind stands in a list of kinds
unfoldable pub one_of : ℕ → List ℕ → Bool
one_of k [] = false
one_of k (w ∷ ws) = cond (eqb k w) true (one_of k ws)

-- [1.8] whether a kind is a word's
abbrev pub is_listed : ℕ → Bool
is_listed k = ltb k (length words)

-- [2.2] whether a term's row of kind k has no operand; whether it has one
abbrev pub counted : ℕ → Option ℕ → Bool
counted n (Some m) = eqb m n
counted n None = false

abbrev pub is_leaf : ℕ → Bool
is_leaf k = counted 0 (operands_of k Term)

abbrev pub has_one_operand : ℕ → Bool
has_one_operand k = counted 1 (operands_of k Term)

-- [3.9] the maps
abbrev pub maps : List ℕ
maps = word_mappar ∷ word_mapseq ∷ word_mapvec ∷ []

abbrev pub is_map : ℕ → Bool
is_map k = one_of k maps

-- [3.8] the operations on two numbers
abbrev pub operations : List ℕ
operations = word_add ∷ word_sub ∷ word_mul ∷ word_div ∷ word_min ∷ word_max ∷ []

abbrev pub is_operation : ℕ → Bool
is_operation k = one_of k operations

-- [3.13] the loops
abbrev pub loops : List ℕ
loops = word_for ∷ word_par ∷ word_lanes ∷ []

abbrev pub is_loop : ℕ → Bool
is_loop k = one_of k loops
