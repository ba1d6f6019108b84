-- Questions 1 to 8 as one list for a text, and 2 and 4 to 8 as one for rows, in the order in which they are put: [10.16]; 18 [18.15] stands
-- right behind 6, and a plan's rows are never refused by it (`plan_never_18` of `Theorems`). That the check of a text or of rows is the
-- first "no" of this list is said by `Theorems`. Definitions only; assumes nothing.
use Rattle.std.specs.Prelude.{Bool, true, false, List, [], ◌∷◌, ◌++◌, ℕ, suc, ◌+◌, leb, length, Option, Some, None}
use Rattle.refusals.specs.declared.Refusal.TheVariants.{TextForm, LineForm, LineCount, RowDue, NumberRange, NameCount, LanesInside}
use Rattle.words.specs.Kinds.{Row}
use Rattle.words.specs.Groups.{is_listed}
use Rattle.words.specs.Words.{look_up, operands_of}
use Rattle.words.specs.declared.Sort.TheVariants as sort
use Rattle.texts.specs.Texts.{lines_of}
use Rattle.lines.specs.Reading.{line_of, rows_in, closed, plan_limits}
use Rattle.lines.specs.declared.Limits.{Limits}
use Rattle.syntax.specs.declared.operands.Due.{Due}
use Rattle.syntax.specs.Ranges.{as_natural, in_range}
use Rattle.syntax.specs.Names.{no_names, opened_by, names_fit, lanes_fit}
use Rattle.syntax.specs.Operands.{inputs_counted, due, operands_due}
use Rattle.syntax.specs.Reading.{plan_of}
use Rattle.typing.specs.Questions.{Question, question}
use Rattle.typing.specs.TypeQuestions.{plan_questions}

-- ---- 1 to 3

abbrev pub is_row : Option Row → Bool
is_row (Some (k, z)) = true
is_row None = false

-- [10.2] Of every line, n lines standing before these
unfoldable pub line_questions : (List ℕ → Option ℕ) → ℕ → List (List ℕ) → List Question
line_questions head n [] = []
line_questions head n (l ∷ ls) = question (is_row (line_of head l)) (LineForm (suc n)) ∷ line_questions head (suc n) ls

-- [10.1] before them
unfoldable pub form_questions : (List ℕ → Option ℕ) → ℕ → List ℕ → List Question
form_questions head bytes t = question (closed bytes t) TextForm ∷ line_questions head 0 (lines_of t)

-- [10.3] and behind them
unfoldable pub read_questions : (List ℕ → Option ℕ) → Limits → List ℕ → List Question
read_questions head limits t =
    form_questions head limits.bytes t ++ (question (leb (length (lines_of t)) limits.lines) LineCount ∷ [])

-- ---- 4 to 6, and 18

abbrev pub is_of_sort : Option ℕ → Bool
is_of_sort (Some m) = true
is_of_sort None = false

abbrev pub count_of : Option ℕ → ℕ
count_of (Some m) = m
count_of None = 0

-- [10.18] Of each row, from the top: [10.4], [10.5], [10.6], and [18.15] whether no `lanes` stands in another. At the end, [10.4] again:
-- nothing is still due, and no row is left. p rows stand before these.
unfoldable pub walk_questions : ℕ → List Due → List Row → List Question
walk_questions p [] [] = []
walk_questions p [] (r ∷ rs) = question false (RowDue (suc p)) ∷ []
walk_questions p (d ∷ ds) [] = question false (RowDue (suc p)) ∷ []
walk_questions p (d ∷ ds) (r ∷ rs) =
    question (is_of_sort (operands_of r.0 d.sort)) (RowDue (suc p))
    ∷ question (in_range d.sort d.names r.0 (as_natural r.1)) (NumberRange (suc p))
    ∷ question (names_fit (opened_by r.0 (as_natural r.1) d.names)) (NameCount (suc p))
    ∷ question (lanes_fit (opened_by r.0 (as_natural r.1) d.names)) (LanesInside (suc p))
    ∷ walk_questions (suc p)
    (operands_due d r.0 (as_natural r.1) (inputs_counted d.sort (as_natural r.1) + count_of (operands_of r.0 d.sort)) ++ ds)
    rs

-- [10.2] of a table that was not read from a text: a text's kinds are words'
unfoldable pub kind_questions : ℕ → List Row → List Question
kind_questions p [] = []
kind_questions p (r ∷ rs) = question (is_listed r.0) (LineForm (suc p)) ∷ kind_questions (suc p) rs

-- ---- all of them

unfoldable pub row_questions : List Row → List Question
row_questions R = (kind_questions 0 R ++ walk_questions 0 (due sort.Plan no_names ∷ []) R) ++ plan_questions (plan_of R)

unfoldable pub text_questions : List (List ℕ) → List ℕ → List Question
text_questions ws t = read_questions (look_up ws) plan_limits t ++ row_questions (rows_in (look_up ws) (lines_of t))
