-- The translation of a plan's text: [10.1] to [10.8], [10.10], [18.15], [10.11] and [10.12], in this order ([10.16]). The table of
-- words is an argument. Definitions only; assumes nothing.
use Rattle.std.specs.Prelude.{cond, ◌≡◌, List, ℕ, leb, length, Ok, Err}
use Rattle.refusals.specs.declared.Refusal.TheVariants.{LoopsLength, WriteCount, LanesInside}
use Rattle.refusals.specs.Answers.{unless_refused, is_told, Answer}
use Rattle.words.specs.Kinds.{Row}
use Rattle.words.specs.Words.{look_up}
use Rattle.texts.specs.Texts.{lines_of}
use Rattle.lines.specs.Reading.{rows_in, filled}
use Rattle.lines.specs.Printing.{text_of, printing}
use Rattle.meaning.specs.Terms.{Plan}
use Rattle.meaning.specs.Rows.{loops_rows}
use Rattle.meaning.specs.Counts.{plan_writes}
use Rattle.meaning.specs.Limits.{lanes_apart}
use Rattle.meaning.specs.Translation.{translation}
use Rattle.syntax.specs.Reading.{plan_of}
use Rattle.typing.specs.Entry.{check_plan_text}

-- ---- plans

-- [6.1] The rows of the loops that are made from a plan.
abbrev pub made_rows : Plan → List Row
made_rows P = loops_rows (translation P)

-- [10.10] The rows made are at most 4,096 ([13.5]). [18.15] No `lanes` stands inside another; a "no" is told with line 0. [10.11] The writes,
-- which are the plan's w ([7.3]), are at most 16,777,216 ([13.15]).
unfoldable pub make_plan : Plan → Answer
make_plan P =
    cond (leb (length (made_rows P)) 4096)
    (cond (lanes_apart (translation P).command)
    (cond (leb (plan_writes P) 16777216) (Ok (length (made_rows P))) (Err WriteCount))
    (Err (LanesInside 0)))
    (Err LoopsLength)

-- ---- texts

-- the plan whose rows a text's lines are
abbrev pub plan_in : List (List ℕ) → List ℕ → Plan
plan_in ws t = plan_of (rows_in (look_up ws) (lines_of t))

-- the rows of the loops that are made from it
abbrev pub rows_made : List (List ℕ) → List ℕ → List Row
rows_made ws t = made_rows (plan_in ws t)

-- [10.1] to [10.8] by the check of `typing`; then [10.10], [18.15] and [10.11].
unfoldable pub make_text : List (List ℕ) → List ℕ → Answer
make_text ws t = unless_refused (check_plan_text ws t) (make_plan (plan_in ws t))

-- ---- what is lent

-- What is promised of the answer r and of a lent text, as lent and as left, where the translation answers v and makes the rows R, ws
-- being the table of words. [10.12] The text has room for the bytes, which `printing` of `lines` asks. They stand in front, and the rest is
-- as it was ([10.22]); with a refusal all is ([10.17]).
pub record TextInto (ws : List (List ℕ)) (v : Answer) (R : List Row) (text : List ℕ) (r : Answer) (text' : List ℕ) : Type 0 where
  pub answer : r ≡ unless_refused v (printing (text_of ws R) (length text))
  pub text_left : text' ≡ filled (is_told r) (text_of ws R) text
