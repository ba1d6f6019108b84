-- What the types of a plan ([5.1]) are in the table of types and in the column beside its rows: what `type_plan` finds. The translator
-- goes by it. Definitions only; assumes nothing.
use Rattle.std.specs.Prelude.{◌≡◌, List, [], ℕ, ◌+◌, ◌≤◌, ◌<◌, ℤ, length, get_or, take, drop, Result, Ok, Err}
use Rattle.refusals.specs.declared.Refusal.{Refusal}
use Rattle.words.specs.Kinds.{rows_of}
use Rattle.meaning.specs.Types.{DataType, number}
use Rattle.meaning.specs.Terms.{Plan}
use Rattle.meaning.specs.Rows.{all_type_rows, plan_rows}
use Rattle.syntax.specs.InRange.{PlanInRange}
use Rattle.type_table.specs.Table.{type_at, Sound}
use Rattle.type_table.specs.Columns.{Names, Noted}
use Rattle.typing.specs.Check.{Verdict, typed, refused, check_types, check_plan}
use Rattle.row_typing.specs.declared.TypedPlan.{TypedPlan}
use Rattle.row_typing.specs.declared.inputs.TypedInputs.{TypedInputs}

-- kinds and numbers are the rows of the plan P, whose numbers are in range
abbrev pub PlanStands : List ℕ → List ℤ → Plan → Type 0
PlanStands ks ns P = (rows_of ks ns ≡ plan_rows P) × PlanInRange P

-- The types of the plan P, of type t, in the table U of l types, which was T: those of its inputs at the places I, that of its term at
-- place p; and in the column D, which was C, from the term's first row on, the type of every term in it. Its first row is r.
pub record PlanTyped (T C U D : List ℕ) (P : Plan) (t : DataType) (I : List ℕ) (r p l : ℕ) : Type 0 where
  pub sound : Sound U l
  pub few : l ≤ 512
  pub inputs : (k : ℕ) → k < length P.inputs → Names U l (get_or I k 0) (get_or P.inputs k number)
  pub row : r ≡ 1 + length (all_type_rows P.inputs)
  pub place : Names U l p t
  pub noted : Noted U l P.inputs [] P.term (drop r D)
  pub types : length U ≡ length T
  pub column : length D ≡ length C

-- what `type_plan` asks of kinds, numbers, the table of types and the column
pub record PlanRoom (ks : List ℕ) (ns : List ℤ) (T C : List ℕ) : Type 0 where
  pub sizes : length ks ≡ length ns
  pub few : length ks ≤ 256
  pub types : 512 ≤ length T
  pub column : 256 ≤ length C
  pub plan : Plan
  pub stands : PlanStands ks ns plan

-- `type_plan(kinds, numbers, nodes, types)` answers r: it requires PlanRoom (now kinds) (now numbers) (now nodes) (now types), and
-- ensures this of ks = kinds.now, ns = numbers.now, T and U = now nodes at entry and exit, C and D = now types so.
pub record PlanAnswered (ks : List ℕ) (ns : List ℤ) (T C U D : List ℕ) (r : Result TypedPlan Refusal) : Type 0 where
  pub no : (P : Plan) (q : Refusal) → PlanStands ks ns P → check_plan P ≡ refused q → r ≡ Err q
  pub yes : (P : Plan) (t : DataType) → PlanStands ks ns P → check_plan P ≡ typed t
      → (f : TypedPlan) × (r ≡ Ok f) × PlanTyped T C U D P t f.inputs f.row f.term.place f.term.len

-- ---- on the way there

-- The types of the first i of the inputs J stand in the table U, which was T: their places are in D. Their rows begin at row 1 and
-- end before `row`.
pub record InputsTyped (T U D : List ℕ) (J : List DataType) (i row len : ℕ) : Type 0 where
  pub sound : Sound U len
  pub some : 1 ≤ len
  pub first : type_at U 0 ≡ number
  pub few : len ≤ row
  pub ends : row ≡ 1 + length (all_type_rows (take i J))
  pub named : (k : ℕ) → k < i → Names U len (get_or D k 0) (get_or J k number)
  pub size : length U ≡ length T
  pub places : length D ≡ 8

-- the answer on the inputs' types, whatever the check of the term says
abbrev pub InputsFound : List ℕ → List ℕ → Plan → Result TypedInputs Refusal → Type 0
InputsFound T U P (Ok f) =
    InputsTyped T U f.places P.inputs (length P.inputs) f.row f.len × ((v : Verdict) → check_types P.inputs 2 v ≡ v)
InputsFound T U P (Err q) = (v : Verdict) → check_types P.inputs 2 v ≡ refused q
