-- Demand 2: a plan is accepted exactly when it is well typed within the limits [10.21]; the loops made from it are, line by line, those of
-- the translation [6.1], and they always pass [9.9]; lines written out and read back are the same lines [1.9]; 4,096
-- rows of loops, or 256 of a plan, fit a text [16.9]; loops that pass run safely, whoever wrote them [9.9].
--
-- It rests on
--   meaning    HasType, which is Figure 3 of the paper; translation, which is its sections 4.1 to 4.3; the rows of plans and loops;
--              plan_writes, need; TouchesBelow
--   Questions  1 to 6 and 18 at the door; plan_questions of `typing`: of them 8; each limit is said there and nowhere else
--   Ways       how loops are had from a plan's text; Told: what an entry tells
--   lines      text_rows: the rows of a text's lines; text_of: rows as a text
use Rattle.std.specs.Prelude.{◌≡◌, List, [], ◌↔◌, ℕ, ◌≤◌, ◌<◌, ℤ, length}
use Rattle.loops.specs.Checked.{Checked}
use Rattle.refusals.specs.Answers.{Answer}
use Rattle.words.specs.Kinds.{Row, rows_of}
use Rattle.words.specs.declared.Sort.TheVariants as sort
use Rattle.lines.specs.Lent.{text_rows}
use Rattle.lines.specs.Printing.{text_of, Printable, Each}
use Rattle.lines.specs.Reading.{head_of, plan_limits, loops_limits}
use Rattle.lines.specs.declared.Heads.TheVariants.{Words}
use Rattle.lines.specs.declared.Limits.{Limits}
use Rattle.meaning.specs.Types.{DataType}
use Rattle.meaning.specs.Terms.{Plan}
use Rattle.meaning.specs.Typing.{HasType}
use Rattle.meaning.specs.Loops.{Loops}
use Rattle.meaning.specs.Layout.{need, regions_from}
use Rattle.meaning.specs.Runs.{start_of}
use Rattle.meaning.specs.Rows.{plan_rows, loops_rows}
use Rattle.meaning.specs.Counts.{plan_writes}
use Rattle.meaning.specs.Limits.{TouchesBelow}
use Rattle.meaning.specs.Translation.{translation}
use Rattle.typing.specs.Questions.{AllYes, AllYesTo}
use Rattle.typing.specs.TypeQuestions.{plan_questions}
use Rattle.typing.specs.EntryQuestions.{read_questions}
use Rattle.plans.specs.Promises.{ChecksPlan}
use Rattle.loops.specs.Promises.{ChecksLoops, ChecksTable}
use Rattle.guarantees.specs.Told.{Told, told_answer, told_writes, told_need}
use Rattle.guarantees.specs.Questions.{plan_door, rows_door}
use Rattle.guarantees.specs.Ways.{MadeText, MadeTable}

-- [5.1] P is the plan whose rows a text's lines are, and the only one; it is well typed by Figure 3, and within the limits: 1 to 6 are
-- answered "yes", and so is 8 on every row.
pub record PlanAccepted (ws : List (List ℕ)) (t : List ℕ) (P : Plan) : Type 0 where
  pub rows : text_rows ws t ≡ plan_rows P
  pub only : (Q : Plan) → text_rows ws t ≡ plan_rows Q → Q ≡ P
  pub type : DataType
  pub well_typed : HasType P.inputs [] P.term type
  pub limits : AllYes (plan_door ws t)
  pub sizes : AllYesTo 8 (plan_questions P)

-- What the check of loops tells of the loops made from P.
abbrev pub TellsOf : Plan → Checked → Type 0
TellsOf P r = (told_writes r ≡ Told.value (plan_writes P)) × (told_need r ≡ Told.value (need (translation P)))

-- [9.9] Where the check told the need n, every cell that the loops L read or write, in any round, is below n.
abbrev pub Safe : List Row → Checked → Type 0
Safe R r = (n : ℕ) → told_need r ≡ Told.value n → (L : Loops) → R ≡ loops_rows L → TouchesBelow n L.command (start_of L) (regions_from L)

pub record Demand2 (ws : List (List ℕ)) : Type 0 where
  -- [10.21] a plan's text, of so many rows
  pub accepted : (t : List ℕ) (r : Answer) → ChecksPlan ws t r → (n : ℕ)
      → (told_answer r ≡ Told.value n) ↔ ((P : Plan) × PlanAccepted ws t P × (length (plan_rows P) ≡ n))
  -- [6.1] the loops made, as a text and as a table
  pub text_made : (t u : List ℕ) → MadeText ws t u → (P : Plan) → PlanAccepted ws t P → u ≡ text_of ws (loops_rows (translation P))
  pub rows_made : (t k : List ℕ) (n : List ℤ) → MadeTable ws t k n → (P : Plan) → PlanAccepted ws t P → rows_of k n ≡ loops_rows (translation P)
  -- [9.9] loops that the translator made pass
  pub text_passes : (t u : List ℕ) → MadeText ws t u → (P : Plan) → PlanAccepted ws t P → (r : Checked) → ChecksLoops ws u r → TellsOf P r
  pub rows_pass : (t k : List ℕ) (n : List ℤ) → MadeTable ws t k n → (P : Plan) → PlanAccepted ws t P → (r : Checked) → ChecksTable k n r → TellsOf P r
  -- [1.9] rows that are printed read back as the same rows; a text that is read prints back as the same text
  pub read_back : (limits : Limits) (R : List Row) → Each (Printable ws) R → 0 < length R → length (text_of ws R) ≤ limits.bytes
      → length R ≤ limits.lines → AllYes (read_questions (head_of ws Words) limits (text_of ws R)) × (text_rows ws (text_of ws R) ≡ R)
  pub print_back : (limits : Limits) (t : List ℕ) → AllYes (read_questions (head_of ws Words) limits t) → text_of ws (text_rows ws t) ≡ t
  -- [16.9] Rows that pass 4 to 6, so that their numbers are those that question 5 lets be: 4,096 of loops are printed in at most 65,536 bytes,
  -- 256 of a plan in at most 4,096.
  pub loops_fit : (R : List Row) → Each (Printable ws) R → AllYes (rows_door sort.Loops R) → length R ≤ loops_limits.lines
      → length (text_of ws R) ≤ loops_limits.bytes
  pub plan_fits : (R : List Row) → Each (Printable ws) R → AllYes (rows_door sort.Plan R) → length R ≤ plan_limits.lines
      → length (text_of ws R) ≤ plan_limits.bytes
  -- [9.9] loops that pass run safely, whoever wrote them
  pub text_safe : (t : List ℕ) (r : Checked) → ChecksLoops ws t r → Safe (text_rows ws t) r
  pub rows_safe : (k : List ℕ) (n : List ℤ) (r : Checked) → ChecksTable k n r → Safe (rows_of k n) r
