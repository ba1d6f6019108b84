-- What the contracts of the entries' parts say besides: a plan's rows with the types that were found.
-- Definitions only; assumes nothing.
use Rattle.std.specs.Prelude.{cond, ◌≡◌, List, [], map, ℕ, ◌+◌, ◌≤◌, ◌<◌, eqb, ℤ, length, get_or, drop, Ok, Err}
use Rattle.loops.specs.Checked.{Checked}
use Rattle.refusals.specs.Answers.{Answer}
use Rattle.refusals.specs.Refusals.{refusal_number}
use Rattle.refusals.specs.declared.Refusal.TheVariants.{LanesInside}
use Rattle.meaning.specs.Types.{number, cells}
use Rattle.meaning.specs.Terms.{Plan}
use Rattle.meaning.specs.Rows.{all_type_rows}
use Rattle.meaning.specs.Translation.{plan_type}
use Rattle.type_table.specs.Table.{type_at, Sound}
use Rattle.type_table.specs.Columns.{Names, Noted}
use Rattle.row_typing.specs.Typed.{PlanStands}

-- the cells of the types at places of the table Y
abbrev pub cells_at : List ℕ → List ℕ → List ℕ
cells_at Y places = map (λ (p : ℕ). cells (type_at Y p)) places

-- The rows of the plan P stand in kinds and numbers, its term's from `row` on; its types in the table Y, those of its inputs at the
-- places I and that of its term at `place`; and the places of its term's types in the column C.
pub record PlanNoted (ks : List ℕ) (ns : List ℤ) (C Y I : List ℕ) (row place : ℕ) (P : Plan) : Type 0 where
  pub stands : PlanStands ks ns P
  pub sound : Sound Y (length Y)
  pub inputs : (k : ℕ) → k < length P.inputs → Names Y (length Y) (get_or I k 0) (get_or P.inputs k number)
  pub first : row ≡ 1 + length (all_type_rows P.inputs)
  pub type : Names Y (length Y) place (plan_type P)
  pub noted : Noted Y (length Y) P.inputs [] P.term (drop row C)

pub record SomePlanNoted (ks : List ℕ) (ns : List ℤ) (C Y I : List ℕ) (row place : ℕ) : Type 0 where
  pub sizes : length ks ≡ length ns
  pub few : length ks ≤ 256
  pub column : 256 ≤ length C
  pub places : length I ≡ 8
  pub plan : Plan
  pub noted : PlanNoted ks ns C Y I row place plan

-- So many rows, if the check of loops lets them pass; [18.15] question 18 names no line of loops that are made.
abbrev pub by_check : ℕ → Checked → Answer
by_check n (Ok p) = Ok n
by_check n (Err q) = Err (cond (eqb (refusal_number q) 18) (LanesInside 0) q)
