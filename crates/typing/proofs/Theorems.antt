-- What is proved of the check of a plan, in one place. It rests on `check`, `check_plan` (Check), `check_plan_rows`, `check_plan_text` (Entry), the
-- list of questions in order (Questions), what is to be accepted (Accepted), and on `HasType`, `TermWithin`, `PlanWithin` and
-- `plan_rows` of `meaning`, `PlanInRange` and `walk_table` of `syntax`, `reading` and `text_of` of `lines`. The proofs stand in Laws.
use Rattle.std.specs.Prelude.{◌≡◌, List, [], ◌∷◌, ◌++◌, ◌↔◌, ℕ, ◌≤◌, ◌<◌, ◌*◌, ◌/◌, length, Ok, Err}
use Rattle.std.proofs.Common.{sym, subst}
use Rattle.refusals.specs.declared.Refusal.{Refusal}
use Rattle.refusals.specs.declared.Refusal.TheVariants.{TypeMisfit, TypeSize, LanesInside}
use Rattle.words.specs.Kinds.{Row}
use Rattle.words.specs.Words.{words, look_up}
use Rattle.words.specs.Good.{Good}
use Rattle.words.proofs.Laws.{words_good}
use Rattle.words.specs.declared.Sort.{Sort}
use Rattle.words.specs.declared.Sort.TheVariants as sort
use Rattle.texts.specs.Texts.{lines_of}
use Rattle.lines.specs.Reading.{rows_in, reading, plan_limits}
use Rattle.meaning.specs.Types.{DataType, number, array, vector}
use Rattle.meaning.specs.Terms.{Term, Plan}
use Rattle.meaning.specs.Typing.{HasType, type_of}
use Rattle.meaning.specs.Limits.{TermWithin, PlanWithin}
use Rattle.meaning.specs.Rows.{plan_rows}
use Rattle.syntax.specs.InRange.{TermInRange, PlanInRange}
use Rattle.syntax.specs.Names.{no_names}
use Rattle.syntax.specs.Operands.{due}
use Rattle.syntax.specs.Walk.{walk_table}
use Rattle.typing.specs.Check.{typed, refused, check, check_plan}
use Rattle.typing.specs.Questions.{ask, AllYes, FirstNo}
use Rattle.typing.specs.TypeQuestions.{term_questions, plan_questions}
use Rattle.typing.specs.EntryQuestions.{read_questions, kind_questions, walk_questions, row_questions, text_questions}
use Rattle.typing.specs.Entry.{check_plan_rows, check_plan_text}
use Rattle.typing.specs.Accepted.{AllNonempty, AcceptedRows, AcceptedText}
use Rattle.typing.proofs.Laws.TypeQuestions.{check_asks, plan_asks, plan_type}
use Rattle.typing.proofs.Laws.EntryQuestions.{reading_asks, table_asks, rows_ask, text_asks, asked_refused, asked_passed}
use Rattle.typing.specs.Lengths.{split_plan, index_plan, asvec_plan, at_plan, zip_plan, table_plan, Decided}
use Rattle.typing.proofs.Laws.Lengths.{split_decided, index_decided, asvec_decided, lane_decided, zip_decided, table_decided}
use Rattle.typing.proofs.Laws.Plans.{term_accepted, term_accepts, plan_accepted, plan_accepts}
use Rattle.typing.proofs.Laws.PlanLanes.{plan_apart}
use Rattle.typing.proofs.Laws.Rows.{accepted_rows, admitted_rows}
use Rattle.typing.proofs.Laws.Texts.{accepted_text, text_accepted}

-- ---- trees

-- [10.17] [10.19] The check of a term, and of a plan, is the first "no" of questions 7 and 8 in order; without one, the term's type.
pub term_first_no : (I Γ : List DataType) (e : Term) (line : ℕ)
    → check I Γ e line ≡ ask refused (term_questions I Γ e line) (typed (type_of I Γ e))
term_first_no = check_asks

pub plan_first_no : (P : Plan) → check_plan P ≡ ask refused (plan_questions P) (typed (plan_type P))
plan_first_no = plan_asks

-- [5.1] The check finds a type exactly when Figure 3's relation gives it and every row's type is within the limits. Question 5 was asked
-- before: numbers are in range, no array of an input or a variable is empty, [13.19] and a vector's width is one that there is.
pub term_check : (I Γ : List DataType) (e : Term) (line : ℕ) (t : DataType)
    → AllNonempty I → AllNonempty Γ → TermInRange (length I) (length Γ) e
    → (check I Γ e line ≡ typed t) ↔ (HasType I Γ e t × TermWithin I Γ e)
term_check I Γ e line t full g r =
    ((λ h. term_accepted I Γ e line t full g r h), (λ h. term_accepts I Γ e line t h.0 h.1))

-- [5.1] The same of a plan, its rows being few enough for question 3.
pub plan_check : (P : Plan) (t : DataType) → PlanInRange P
    → ((check_plan P ≡ typed t) × (length (plan_rows P) ≤ 256)) ↔ (HasType P.inputs [] P.term t × PlanWithin P)
plan_check P t r = (
  (λ h. plan_accepted P t r h.1 h.0),
  (λ h. (plan_accepts P t h.0 h.1, h.1.rows_few)),
)

-- [15.2] Where arrays differ in length only (P3, P4, P9, and `zip`), for every length: `split,n` passes when n divides the length, `idx,k`
-- when k is below it, `zip` when the lengths are equal, m × n cells when they are at most 4,096; and else it is refused.
pub split_any_length : (n l : ℕ) → 0 < n → l ≤ 4096
    → Decided (check_plan (split_plan n l)) ((m : ℕ) × (l ≡ m * n)) (array (l / n) (array n number)) (TypeMisfit 4)
split_any_length = split_decided

pub index_any_length : (k l : ℕ) → l ≤ 4096 → Decided (check_plan (index_plan k l)) (k < l) number (TypeMisfit 4)
index_any_length = index_decided

-- [18.4] The same of vectors: `asvec,w` passes when w divides the length, `at,k` when k is below the width.
pub asvec_any_length : (w l : ℕ) → 0 < w → l ≤ 4096
    → Decided (check_plan (asvec_plan w l)) ((m : ℕ) × (l ≡ m * w)) (array (l / w) (vector w)) (TypeMisfit 4)
asvec_any_length = asvec_decided

pub at_any_width : (k w : ℕ) → w ≤ 4096 → Decided (check_plan (at_plan k w)) (k < w) number (TypeMisfit 3)
at_any_width = lane_decided

pub zip_any_length : (m n : ℕ) → m ≤ 2048 → n ≤ 4096
    → Decided (check_plan (zip_plan m n)) (m ≡ n) (array m (DataType.pair number number)) (TypeMisfit 6)
zip_any_length = zip_decided

pub cells_any_length : (m n : ℕ) → n ≤ 4096 → Decided (check_plan (table_plan m n)) (m * n ≤ 4096) (array m (array n number)) (TypeSize 2)
cells_any_length = table_decided

-- ---- rows

-- [10.21] Demand 2 for rows: they are at most 256 and pass exactly when they are the rows of a plan that is well typed and within the
-- limits; it is the only one.
pub rows_accepted : (R : List Row) → ((check_plan_rows R ≡ Ok (length R)) × (length R ≤ 256)) ↔ AcceptedRows R
rows_accepted R = (
  (λ h. accepted_rows R h.1 h.0),
  (λ a. subst (λ (S : List Row). (check_plan_rows S ≡ Ok (length S)) × (length S ≤ 256)) (sym a.rows)
      (admitted_rows a.plan a.admitted, a.admitted.within.rows_few)),
)

-- [10.18] The walk is the first "no" of questions 2 (of kinds), 4 to 6 and 18 [18.15], of plans and of loops.
pub walk_first_no : (s : Sort) (R : List Row)
    → walk_table s R ≡ ask Err (kind_questions 0 R ++ walk_questions 0 (due s no_names ∷ []) R) (Ok (length R))
walk_first_no = table_asks

-- [18.15] The walk of a plan's rows is never refused by question 18, which loops are asked: no `lanes` row may stand in a plan.
pub plan_never_18 : (R : List Row) (line : ℕ) → walk_table sort.Plan R ≡ Err (LanesInside line) → ⊥
plan_never_18 = plan_apart

-- [10.17] Demand 1 for rows: their check is the first "no" of questions 2 (of kinds) and 4 to 8 in order. So each refusal is given exactly
-- when it is the first "no", and rows pass exactly when every answer is "yes".
pub rows_first_no : (R : List Row) → check_plan_rows R ≡ ask Err (row_questions R) (Ok (length R))
rows_first_no = rows_ask

pub rows_refused : (R : List Row) (q : Refusal) → (check_plan_rows R ≡ Err q) ↔ FirstNo (row_questions R) q
rows_refused R = asked_refused (check_plan_rows R) (row_questions R) (length R) (rows_ask R)

pub rows_passed_holds : (R : List Row) → (check_plan_rows R ≡ Ok (length R)) ↔ AllYes (row_questions R)
rows_passed_holds R = asked_passed (check_plan_rows R) (row_questions R) (length R) (rows_ask R)

-- ---- texts, with any good table of words

module _ (ws : List (List ℕ)) (good : Good ws) where
  -- [10.21] Demand 2 for texts.
  pub text_check : (t : List ℕ) (n : ℕ) → (check_plan_text ws t ≡ Ok n) ↔ AcceptedText ws t n
  text_check t n = (accepted_text ws good t n, text_accepted ws good t n)

-- [10.21] Demand 2 for texts in the words of [2.2].
pub plan_text_check : (t : List ℕ) (n : ℕ) → (check_plan_text words t ≡ Ok n) ↔ AcceptedText words t n
plan_text_check = text_check words words_good

-- [10.17] The reading is the first "no" of questions 1 to 3.
pub reading_first_no : (ws : List (List ℕ)) (t : List ℕ)
    → reading (look_up ws) plan_limits t ≡ ask Err (read_questions (look_up ws) plan_limits t) (Ok (length (lines_of t)))
reading_first_no ws t = reading_asks (look_up ws) plan_limits t

-- [10.17] Demand 1 for texts, with any table of words: the check is the first "no" of questions 1 to 8 in order.
pub text_first_no : (ws : List (List ℕ)) (t : List ℕ)
    → check_plan_text ws t ≡ ask Err (text_questions ws t) (Ok (length (rows_in (look_up ws) (lines_of t))))
text_first_no = text_asks

pub text_refused : (ws : List (List ℕ)) (t : List ℕ) (q : Refusal) → (check_plan_text ws t ≡ Err q) ↔ FirstNo (text_questions ws t) q
text_refused ws t = asked_refused (check_plan_text ws t) (text_questions ws t) _ (text_asks ws t)

pub text_passed : (ws : List (List ℕ)) (t : List ℕ)
    → (check_plan_text ws t ≡ Ok (length (rows_in (look_up ws) (lines_of t)))) ↔ AllYes (text_questions ws t)
text_passed ws t = asked_passed (check_plan_text ws t) (text_questions ws t) _ (text_asks ws t)
