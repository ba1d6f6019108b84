-- An entry of the table of words as the code's table holds it, in bytes: letters and blanks, their count, and a column for each sort. What the
-- code's built-in table is, and what is asked of the table that a row's operands are looked for in; no contract of an entry rests on it. Assumes nothing.
use Rattle.std.specs.Prelude.{List, [], ◌∷◌, ◌++◌, map, ℕ, ◌+◌, length, take, Option, Some, None}
use Rattle.words.specs.Words.{bytes, Entry, table, operands_as}
use Rattle.words.specs.declared.Sort.{Sort}
use Rattle.words.specs.declared.Sort.TheVariants.{Plan, DataType, Term, Loops, Cells, Command, Place, Value, Offset}

abbrev pub column_for : Option ℕ → ℕ
column_for (Some n) = 48 + n
column_for None = 45

abbrev pub sorts : List Sort
sorts = Plan ∷ DataType ∷ Term ∷ Loops ∷ Cells ∷ Command ∷ Place ∷ Value ∷ Offset ∷ []

unfoldable pub packed : Entry → List ℕ
packed e =
    take 8 (e.letters ++ bytes "        ")
    ++ ((48 + length e.letters) ∷ 32 ∷ map (λ (s : Sort). column_for (operands_as s e.uses)) sorts)

-- all of them
unfoldable pub packed_table : List (List ℕ)
packed_table = map packed table
