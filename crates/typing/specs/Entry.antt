-- The check of a plan from its rows and from its text: questions 1 to 8 in the order of [10.16], of which the first "no" is told
-- [10.17]. Definitions only; assumes nothing.
use Rattle.std.specs.Prelude.{List, ℕ, Ok, Err}
use Rattle.refusals.specs.Answers.{after, unless_refused, Answer}
use Rattle.words.specs.Kinds.{Row}
use Rattle.words.specs.Words.{look_up}
use Rattle.words.specs.declared.Sort.TheVariants as sort
use Rattle.texts.specs.Texts.{lines_of}
use Rattle.lines.specs.Reading.{rows_in, reading, plan_limits}
use Rattle.syntax.specs.Walk.{walk_table}
use Rattle.syntax.specs.Reading.{plan_of}
use Rattle.typing.specs.Check.{Verdict, typed, refused, check_plan}

-- how many rows a plan has, or the first "no" of questions 7 and 8
abbrev pub answered : ℕ → Verdict → Answer
answered n (typed t) = Ok n
answered n (refused q) = Err q

-- [10.18] Questions 4 to 6 on every row; then 7 and 8 on the plan whose rows they are.
unfoldable pub check_plan_rows : List Row → Answer
check_plan_rows R = after (walk_table sort.Plan R) (λ n. answered n (check_plan (plan_of R)))

-- [10.16] Questions 1 to 3 on the text; then 4 to 8 on its rows. The table of words is an argument.
unfoldable pub check_plan_text : List (List ℕ) → List ℕ → Answer
check_plan_text ws t = unless_refused (reading (look_up ws) plan_limits t) (check_plan_rows (rows_in (look_up ws) (lines_of t)))
