-- Rows that stand in front, those of a type or of a term, and what it is that their types were found. Definitions only; assumes
-- nothing.
use Rattle.std.specs.Prelude.{◌≡◌, cond, List, ◌++◌, ℕ, ◌+◌, ◌-◌, ◌≤◌, ◌<◌, eqb, ℤ, length, get_or, set, drop, Result, Ok, Err}
use Rattle.words.specs.Kinds.{Row, rows_of, word_kind_in, word_var}
use Rattle.meaning.specs.Types.{DataType, number}
use Rattle.meaning.specs.Terms.{Term}
use Rattle.meaning.specs.Rows.{type_rows, term_rows}
use Rattle.syntax.specs.InRange.{TypeInRange}
use Rattle.syntax.specs.Standing.{TermStands, operand_count, first_operand, second_operand}
use Rattle.type_table.specs.Table.{type_at}
use Rattle.type_table.specs.Columns.{Noted, behind_term}
use Rattle.typing.specs.Check.{Verdict, typed, refused, check}
use Rattle.refusals.specs.declared.Refusal.{Refusal}
use Rattle.type_rules.specs.Rules.{Room, Found}
use Rattle.type_rules.specs.Scopes.{InForce}
use Rattle.type_rules.specs.declared.Typed.{Typed}
use Rattle.type_rules.specs.declared.scope.Scope.{Scope}

-- the rows of the type t stand in front of kinds and numbers
pub record TypeStands (ks : List ℕ) (ns : List ℤ) (t : DataType) : Type 0 where
  pub sizes : length ks ≡ length ns
  pub rest : List Row
  pub rows : rows_of ks ns ≡ type_rows t ++ rest
  pub in_range : TypeInRange t

-- the rows of the term e stand in front, and the types I and Γ of inputs and variables are in force
pub record Stands (ks : List ℕ) (ns : List ℤ) (T : List ℕ) (m : ℕ) (s : Scope) (I Γ : List DataType) (e : Term) : Type 0 where
  pub term : TermStands ks ns (length I) (length Γ) e
  pub in_force : InForce T m s I Γ

-- m types stand in T, the first of them `number`, with room for n more; and the column C has the rows ks from a row on
pub record Place (ks T : List ℕ) (m : ℕ) (C : List ℕ) (row n : ℕ) : Type 0 where
  pub room : Room T m n
  pub some : 1 ≤ m
  pub number : type_at T 0 ≡ number
  pub column : row + length ks ≤ length C
  pub few : row + length ks ≤ 65536

-- ---- what was found

-- the place of the type that was found
abbrev pub place_found : Result Typed Refusal → ℕ
place_found (Ok t) = t.place
place_found (Err q) = 0

-- the column with the type that was found noted at a row
abbrev pub with_type : List ℕ → ℕ → Result Typed Refusal → List ℕ
with_type C row (Ok t) = set C row t.place
with_type C row (Err q) = C

-- D is C but in the rows from `row` on, `rows` of them
pub record Kept (C D : List ℕ) (row rows : ℕ) : Type 0 where
  pub size : length D ≡ length C
  pub before : (i : ℕ) → i < row → get_or D i 0 ≡ get_or C i 0
  pub behind : (i : ℕ) → row + rows ≤ i → get_or D i 0 ≡ get_or C i 0

-- The code's answer on the term e, whose rows begin at a row, is the verdict v, the table having been T and the column C; and if it is a
-- type, the types of all the term's rows are noted in the column, D, which is otherwise as it was.
abbrev pub TermFound : List ℕ → ℕ → List ℕ → List ℕ → List ℕ → ℕ → List DataType → List DataType → Term → ℕ → Verdict → Result Typed Refusal → Type 0
TermFound T m C U D row I Γ e n v (Ok t) =
    Found T m U n (length (term_rows e)) v (Ok t) × Noted U t.len I Γ e (drop row D) × Kept C D row (length (term_rows e))
TermFound T m C U D row I Γ e n v (Err q) = v ≡ refused q

-- The term e has two operands or three; the type of the first was found, at place p, and noted. The second begins at the row `at` of e's.
pub record FirstTyped (T : List ℕ) (m : ℕ) (C : List ℕ) (row : ℕ) (I Γ : List DataType) (e : Term) (p at : ℕ) : Type 0 where
  pub two : 2 ≤ operand_count e
  pub start : at ≡ 1 + length (term_rows (first_operand e))
  pub place : p < m
  pub checked : check I Γ (first_operand e) (row + 2) ≡ typed (type_at T p)
  pub noted : Noted T m I Γ (first_operand e) (drop (row + 1) C)

-- The reduction e has the types of its start and of its array found, at places p and q, and noted. Its body begins at the row `at` of e's.
pub record SecondTyped (T : List ℕ) (m : ℕ) (C : List ℕ) (row : ℕ) (I Γ : List DataType) (e : Term) (p q at : ℕ) : Type 0 where
  pub three : 3 ≤ operand_count e
  pub start : at ≡ 1 + length (term_rows (first_operand e)) + length (term_rows (second_operand e))
  pub place : p < m
  pub array : q < m
  pub checked : check I Γ (first_operand e) (row + 2) ≡ typed (type_at T p)
  pub array_checked : check I Γ (second_operand e) (row + 2 + length (term_rows (first_operand e))) ≡ typed (type_at T q)
  pub noted : Noted T m I Γ (first_operand e) (drop (row + 1) C)
  pub array_noted : Noted T m I Γ (second_operand e) (behind_term (first_operand e) (drop (row + 1) C))

-- ---- a row without operands

-- [5.2] The place of the type of `in`, `var` and `lit`
abbrev pub leaf_place : ℕ → ℕ → Scope → ℕ
leaf_place k n s =
    cond (eqb k word_kind_in) (get_or s.inputs n 0) (cond (eqb k word_var) (get_or s.variables (s.count - (n + 1)) 0) 0)
