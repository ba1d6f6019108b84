-- The plan of a text that is accepted. Definitions only; assumes nothing.
use Rattle.std.specs.Prelude.{◌≡◌, List, [], ℕ}
use Rattle.words.specs.Words.{look_up}
use Rattle.texts.specs.Texts.{lines_of}
use Rattle.lines.specs.Reading.{rows_in}
use Rattle.meaning.specs.Types.{DataType}
use Rattle.meaning.specs.Terms.{Plan}
use Rattle.meaning.specs.Typing.{HasType}
use Rattle.meaning.specs.Limits.{PlanWithin}
use Rattle.meaning.specs.Rows.{plan_rows}
use Rattle.typing.specs.Accepted.{Numbers32}

-- ws is the table of words. P is well typed within the limits ([5.1]), its rows are the text's, and their numbers are a cell's ([1.4]).
pub record TextPlan (ws : List (List ℕ)) (t : List ℕ) (P : Plan) : Type 0 where
  pub type : DataType
  pub well_typed : HasType P.inputs [] P.term type
  pub within : PlanWithin P
  pub numbers : Numbers32 (plan_rows P)
  pub rows : rows_in (look_up ws) (lines_of t) ≡ plan_rows P
