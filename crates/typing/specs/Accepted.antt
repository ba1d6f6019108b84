-- Which plans, rows and texts are to be accepted, said without the check: [10.21], [5.1]. Definitions only; assumes nothing.
use Rattle.std.specs.Prelude.{◌≡◌, List, [], ◌∷◌, ℕ, ◌≤◌, length}
use Rattle.std.specs.Int.{w32}
use Rattle.std.proofs.Common.{SFits}
use Rattle.words.specs.Kinds.{Row}
use Rattle.lines.specs.Printing.{text_of}
use Rattle.lines.specs.Printing.{Each}
use Rattle.meaning.specs.Types.{DataType, number, array, vector}
use Rattle.meaning.specs.Terms.{Plan}
use Rattle.meaning.specs.Typing.{HasType}
use Rattle.meaning.specs.Limits.{IsWidth, PlanWithin}
use Rattle.meaning.specs.Rows.{plan_rows}
use Rattle.syntax.specs.InRange.{PlanInRange}

-- [3.1] no array in a type is empty, [13.19] and every vector in it is of a width that there is
abbrev pub Nonempty : DataType → Type 0
Nonempty number = Unit {0}
Nonempty (array n t) = (1 ≤ n) × Nonempty t
Nonempty (DataType.pair s t) = Nonempty s × Nonempty t
Nonempty (vector w) = IsWidth w

abbrev pub AllNonempty : List DataType → Type 0
AllNonempty [] = Unit {0}
AllNonempty (t ∷ ts) = Nonempty t × AllNonempty ts

-- [5.1] A plan that is well typed by Figure 3's relation, its numbers in range and its names in force, within the limits.
pub record Admitted (P : Plan) : Type 0 where
  pub type : DataType
  pub well_typed : HasType P.inputs [] P.term type
  pub in_range_holds : PlanInRange P
  pub within : PlanWithin P

-- Rows that are those of an admitted plan, and of no other plan.
pub record AcceptedRows (R : List Row) : Type 0 where
  pub plan : Plan
  pub admitted : Admitted plan
  pub rows : R ≡ plan_rows plan
  pub only : (Q : Plan) → R ≡ plan_rows Q → Q ≡ plan

-- [13.1] every row's number is in the range
abbrev pub Numbers32 : List Row → Type 0
Numbers32 R = Each (λ (r : Row). SFits w32 r.1) R

-- [10.21] A text of n rows that is an admitted plan's rows as text, in at most 4,096 bytes [13.2].
pub record AcceptedText (ws : List (List ℕ)) (t : List ℕ) (n : ℕ) : Type 0 where
  pub plan : Plan
  pub admitted : Admitted plan
  pub numbers : Numbers32 (plan_rows plan)
  pub text : t ≡ text_of ws (plan_rows plan)
  pub short : length t ≤ 4096
  pub count : length (plan_rows plan) ≡ n
  pub only : (Q : Plan) → t ≡ text_of ws (plan_rows Q) → Numbers32 (plan_rows Q) → Admitted Q → Q ≡ plan
