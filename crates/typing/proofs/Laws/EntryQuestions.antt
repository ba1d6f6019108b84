-- The check of rows and of a text puts its questions in order: each step of `check_plan_text` is the first "no" of its part of the list.
-- Assumes nothing.
use Rattle.std.specs.Prelude.{◌≡◌, refl, Bool, true, false, cond, ◌&&◌, List, [], ◌∷◌, ◌++◌, ◌↔◌, ℕ, suc, ◌+◌, ◌-◌, ◌≤◌, T, eqb, leb, length, get_or, Ok, Err, Option, Some, None}
use Rattle.std.proofs.Common.{sym, ap, ◌∙◌, subst, ⊎_elim, zero-add, add-zero, add-suc, suc-add, arith, leb→le}
use Rattle.std.specs.Float.Ieee.Fits.{and_l, and_r}
use Rattle.refusals.specs.declared.Refusal.{Refusal}
use Rattle.refusals.specs.declared.Refusal.TheVariants.{TextForm, LineForm, RowDue, NumberRange, NameCount, LanesInside}
use Rattle.words.specs.Kinds.{Row}
use Rattle.words.specs.Groups.{is_listed}
use Rattle.refusals.specs.Answers.{after, unless_refused, Answer}
use Rattle.words.specs.Words.{look_up, operands_of}
use Rattle.words.specs.declared.Sort.{Sort}
use Rattle.words.specs.declared.Sort.TheVariants as sort
use Rattle.texts.specs.Texts.{lines_of}
use Rattle.lines.specs.Reading.{line_of, rows_in, closed, whether, formed, limited, reading, plan_limits}
use Rattle.lines.proofs.Laws.{lines_uncounted}
use Rattle.lines.specs.declared.Limits.{Limits}
use Rattle.syntax.specs.declared.operands.Due.{Due}
use Rattle.syntax.specs.Ranges.{as_natural, in_range}
use Rattle.syntax.specs.Names.{no_names, opened_by, names_fit, lanes_fit}
use Rattle.syntax.specs.Operands.{inputs_counted, due, operands_due}
use Rattle.syntax.specs.Walk.{first_no, ask_row, walk_from, listed_from, walk_table}
use Rattle.syntax.specs.Reading.{plan_of}
use Rattle.typing.specs.Check.{typed, refused, check_plan}
use Rattle.typing.specs.Questions.{Question, ask, AllYes, FirstNo}
use Rattle.typing.specs.TypeQuestions.{plan_questions}
use Rattle.typing.specs.Entry.{answered, check_plan_rows, check_plan_text}
use Rattle.typing.specs.EntryQuestions.{is_row, line_questions, form_questions, read_questions, is_of_sort, count_of, walk_questions, kind_questions, row_questions, text_questions}
use Rattle.typing.proofs.Laws.Questions.{yes_or_no, all_asked, ask_append, first_asked, end_asked, ask_through}
use Rattle.typing.proofs.Laws.TypeQuestions.{plan_type, plan_asks}

-- ---- 1 to 3

lines_ask : (head : List ℕ → Option ℕ) (n : ℕ) (ls : List (List ℕ))
    → formed head n ls ≡ ask Err (line_questions head n ls) (Ok (n + length ls))
unfolding formed line_questions ask
lines_ask head n [] = ap Ok (sym (add-zero n))
lines_ask head n (l ∷ ls) =
    go (line_of head l)
    (lines_ask head (suc n) ls
    ∙ ap (λ (m : ℕ). ask Err (line_questions head (suc n) ls) (Ok m)) (suc-add n (length ls) ∙ sym (add-suc n (length ls))))
  where
    go : (x : Option Row) → formed head (suc n) ls ≡ ask Err (line_questions head (suc n) ls) (Ok (n + suc (length ls)))
        → whether x (formed head (suc n) ls) (Err (LineForm (suc n)))
        ≡ cond (is_row x) (ask Err (line_questions head (suc n) ls) (Ok (n + suc (length ls)))) (Err (LineForm (suc n)))
    go (Some (k, z)) e = e
    go None e = refl

-- the lines of a text, from the first on
formed_asks : (head : List ℕ → Option ℕ) (ls : List (List ℕ)) → formed head 0 ls ≡ ask Err (line_questions head 0 ls) (Ok (length ls))
formed_asks head ls =
    lines_ask head 0 ls ∙ ap (λ (n : ℕ). ask Err (line_questions head 0 ls) (Ok n)) (zero-add (length ls))

-- a text that is closed within a limit has no more bytes
closed_short : (limit : ℕ) (t : List ℕ) → closed limit t ≡ true → length t ≤ limit
closed_short limit t e =
    let sizes : Bool = leb 1 (length t) && leb (length t) limit in
    let sized : T sizes = and_l sizes (eqb (get_or t (length t - 1) 0) 10) (subst T (sym e) tt) in
    leb→le (length t) limit (and_r (leb 1 (length t)) (leb (length t) limit) sized)

pub reading_asks : (head : List ℕ → Option ℕ) (limits : Limits) (t : List ℕ)
    → reading head limits t ≡ ask Err (read_questions head limits t) (Ok (length (lines_of t)))
unfolding reading read_questions form_questions ask
reading_asks head limits t =
    let ls : List (List ℕ) = lines_of t in
    ap (λ (r : Answer). cond (closed limits.bytes t) r (Err TextForm))
    (ap (limited limits.lines) (formed_asks head ls)
    ∙ ask_through Err Err (limited limits.lines) (λ r. refl) (line_questions head 0 ls) (Ok (length ls))
    ∙ sym (ask_append Err (line_questions head 0 ls) _ (Ok (length ls))))

-- Where a text of so many bytes has no more lines than may be, question 3 is never answered "no".
pub reading_asks_form : (head : List ℕ → Option ℕ) (limits : Limits) (t : List ℕ) → limits.bytes ≤ limits.lines
    → reading head limits t ≡ ask Err (form_questions head limits.bytes t) (Ok (length (lines_of t)))
unfolding reading form_questions ask
reading_asks_form head limits t h = go (closed limits.bytes t) refl
  where
    few : closed limits.bytes t ≡ true → length t ≤ limits.lines
    few e = let l = closed_short limits.bytes t e in omega (arith, l, h)

    go : (b : Bool) → closed limits.bytes t ≡ b
        → cond b (limited limits.lines (formed head 0 (lines_of t))) (Err TextForm)
        ≡ cond b (ask Err (line_questions head 0 (lines_of t)) (Ok (length (lines_of t)))) (Err TextForm)
    go true e = lines_uncounted head limits.lines t (few e) ∙ formed_asks head (lines_of t)
    go false e = refl

-- ---- 4 to 6, and 18

pub kinds_ask : (p : ℕ) (R : List Row) (next : Answer) → listed_from p R next ≡ ask Err (kind_questions p R) next
unfolding listed_from kind_questions ask
kinds_ask p [] next = refl
kinds_ask p (r ∷ rs) next =
    ap (λ (a : Answer). cond (is_listed r.0) a (Err (LineForm (suc p)))) (kinds_ask (suc p) rs next)

walk_asks : (R : List Row) (p : ℕ) (ds : List Due) → walk_from p ds R ≡ ask Err (walk_questions p ds R) (Ok (p + length R))
unfolding walk_from ask_row walk_questions ask
walk_asks [] p [] = ap Ok (sym (add-zero p))
walk_asks [] p (d ∷ ds) = refl
walk_asks (r ∷ rs) p [] = refl
walk_asks (r ∷ rs) p (d ∷ ds) =
    go (operands_of r.0 d.sort) (in_range d.sort d.names r.0 (as_natural r.1))
    (names_fit (opened_by r.0 (as_natural r.1) d.names)) (lanes_fit (opened_by r.0 (as_natural r.1) d.names))
    (λ m.
    walk_asks rs (suc p) (dues m)
    ∙ ap (λ (n : ℕ). ask Err (walk_questions (suc p) (dues m) rs) (Ok n)) (suc-add p (length rs) ∙ sym (add-suc p (length rs))))
  where
    inputs : ℕ
    inputs = inputs_counted d.sort (as_natural r.1)

    dues : ℕ → List Due
    dues m = operands_due d r.0 (as_natural r.1) m ++ ds

    go : (o : Option ℕ) (ranged fit apart : Bool)
        → ((m : ℕ) → walk_from (suc p) (dues m) rs ≡ ask Err (walk_questions (suc p) (dues m) rs) (Ok (p + suc (length rs))))
        → after (first_no o ranged fit apart inputs (suc p)) (λ m. walk_from (suc p) (dues m) rs)
        ≡ cond (is_of_sort o)
        (cond ranged
        (cond fit
        (cond apart (ask Err (walk_questions (suc p) (dues (inputs + count_of o)) rs) (Ok (p + suc (length rs))))
        (Err (LanesInside (suc p))))
        (Err (NameCount (suc p))))
        (Err (NumberRange (suc p))))
        (Err (RowDue (suc p)))
    go None ranged fit apart h = refl
    go (Some m) false fit apart h = refl
    go (Some m) true false apart h = refl
    go (Some m) true true false h = refl
    go (Some m) true true true h = h (inputs + m)

-- of a plan's table or of loops'
pub table_asks : (s : Sort) (R : List Row)
    → walk_table s R ≡ ask Err (kind_questions 0 R ++ walk_questions 0 (due s no_names ∷ []) R) (Ok (length R))
unfolding walk_table
table_asks s R =
    let walk : List Question = walk_questions 0 (due s no_names ∷ []) R in
    kinds_ask 0 R _
    ∙ ap (ask Err (kind_questions 0 R)) (walk_asks R 0 _ ∙ ap (λ (n : ℕ). ask Err walk (Ok n)) (zero-add (length R)))
    ∙ sym (ask_append Err (kind_questions 0 R) walk (Ok (length R)))

-- ---- all of them

pub rows_ask : (R : List Row) → check_plan_rows R ≡ ask Err (row_questions R) (Ok (length R))
unfolding check_plan_rows row_questions
rows_ask R =
    let walk : List Question = kind_questions 0 R ++ walk_questions 0 (due sort.Plan no_names ∷ []) R in
    let next : Answer → Answer = λ a. after a (λ n. answered n (check_plan (plan_of R))) in
    ap next (table_asks sort.Plan R)
    ∙ ask_through Err Err next (λ r. refl) walk (Ok (length R))
    ∙ ap (ask Err walk)
    (ap (answered (length R)) (plan_asks (plan_of R))
    ∙ ask_through refused Err (answered (length R)) (λ r. refl) (plan_questions (plan_of R)) (typed (plan_type (plan_of R))))
    ∙ sym (ask_append Err walk (plan_questions (plan_of R)) (Ok (length R)))

pub text_asks : (ws : List (List ℕ)) (t : List ℕ)
    → check_plan_text ws t ≡ ask Err (text_questions ws t) (Ok (length (rows_in (look_up ws) (lines_of t))))
unfolding check_plan_text text_questions
text_asks ws t =
    let R : List Row = rows_in (look_up ws) (lines_of t) in
    let next : Answer → Answer = λ r. unless_refused r (check_plan_rows R) in
    ap next (reading_asks (look_up ws) plan_limits t)
    ∙ ask_through Err Err next (λ r. refl) (read_questions (look_up ws) plan_limits t) (Ok (length (lines_of t)))
    ∙ ap (ask Err (read_questions (look_up ws) plan_limits t)) (rows_ask R)
    ∙ sym (ask_append Err (read_questions (look_up ws) plan_limits t) (row_questions R) (Ok (length R)))

-- ---- who is refused got a first "no"; who passes is answered "yes" throughout

pub passed_refused : {n : ℕ} {q : Refusal} {A : Type 0} → Ok n ≡ Err q → A
passed_refused e = absurd (let clash : ◌≡◌ {A = ℕ} 0 1 = cc in omega arith)

module _ (v : Answer) (qs : List Question) (n : ℕ) (asks : v ≡ ask Err qs (Ok n)) where
  pub asked_refused : (q : Refusal) → (v ≡ Err q) ↔ FirstNo qs q
  asked_refused q = (
    (λ e.
        ⊎_elim (λ h. passed_refused (sym (asks ∙ all_asked Err qs (Ok n) h) ∙ e))
        (λ f.
        let same : Err f.0 ≡ Err q = sym (asks ∙ first_asked Err qs (Ok n) f.0 f.1) ∙ e in
        let is : f.0 ≡ q = cc in subst (FirstNo qs) is f.1)
        (yes_or_no qs)),
    (λ f. asks ∙ first_asked Err qs (Ok n) q f),
  )

  pub asked_passed : (v ≡ Ok n) ↔ AllYes qs
  asked_passed = (
    (λ e. (end_asked Err qs (Ok n) (Ok n) (λ r f. passed_refused (sym f)) (sym asks ∙ e)).0),
    (λ h. asks ∙ all_asked Err qs (Ok n) h),
  )
