-- Texts: which are accepted. For every good table of words. Assumes nothing.
use Rattle.std.specs.Prelude.{◌≡◌, Bool, true, false, cond, ◌&&◌, ℕ, suc, ◌-◌, ◌≤◌, ◌<◌, T, leb, eqb, ℤ, get_or, Ok, Err, Option, Some, None}
use Rattle.std.proofs.Math.Path.{refl, ap, subst}
use Rattle.std.proofs.Common.{sym, ◌∙◌, arith, ltb-true, leb→le}
use mathlib.Core.List.{List, [], ◌∷◌}
use Rattle.std.specs.Float.Ieee.Fits.{and_l, and_r}
use Rattle.std.proofs.Math.ListN.{length}
use Rattle.refusals.specs.declared.Refusal.{Refusal}
use Rattle.refusals.specs.declared.Refusal.TheVariants.{LineForm}
use Rattle.words.specs.Kinds.{Row}
use Rattle.words.specs.Groups.{is_listed}
use Rattle.words.specs.Words.{words, look_up}
use Rattle.refusals.specs.Answers.{unless_refused, Answer}
use Rattle.words.specs.Good.{Good}
use Rattle.words.proofs.Laws.{found_word}
use Rattle.words.specs.declared.Sort.TheVariants as sort
use Rattle.numerals.specs.Numerals.{numeral_of as numeral_of}
use Rattle.numerals.specs.Laws.{in_range_holds}
use Rattle.texts.specs.Texts.{lines_of, before_comma, after_comma}
use Rattle.lines.specs.Reading.{line_of, add_row, rows_in, reading, plan_limits}
use Rattle.lines.specs.Printing.{text_of}
use Rattle.lines.specs.Printing.{Each, Printable}
use Rattle.lines.proofs.Laws.{paired_row, rows_back, reads_back, rows_read, prints_back}
use Rattle.meaning.specs.Terms.{Plan}
use Rattle.meaning.specs.Rows.{plan_rows}
use Rattle.syntax.specs.Walk.{listed_from, walk_table}
use Rattle.syntax.specs.Theorems.{WalksWell, plan_walks}
use Rattle.typing.specs.Entry.{check_plan_rows, check_plan_text}
use Rattle.typing.specs.Accepted.{Admitted, AcceptedRows, Numbers32, AcceptedText}
use Rattle.typing.specs.EntryQuestions.{line_questions, form_questions, read_questions}
use Rattle.typing.proofs.Laws.Questions.{yes_parts, end_asked}
use Rattle.typing.proofs.Laws.EntryQuestions.{reading_asks, passed_refused}
use Rattle.typing.proofs.Laws.Rows.{passed_rows, accepted_rows, admitted_rows}

-- ---- rows that are read

-- a text that is read has at most 4,096 bytes and 256 lines
pub read_within : (head : List ℕ → Option ℕ) (t : List ℕ) (n : ℕ) → reading head plan_limits t ≡ Ok n → (length t ≤ 4096) × (n ≤ 256)
unfolding read_questions form_questions
read_within head t n e =
    let a = end_asked Err (read_questions head plan_limits t) (Ok (length (lines_of t))) (Ok n)
    (λ r f. let never : ◌≡◌ {A = ℕ} 0 1 = cc in omega arith) (sym (reading_asks head plan_limits t) ∙ e) in
    let same : Ok (length (lines_of t)) ≡ Ok n = a.1 in
    let count : length (lines_of t) ≡ n = cc in
    let sizes : Bool = leb 1 (length t) && leb (length t) 4096 in
    let sized : T sizes = and_l sizes (eqb (get_or t (length t - 1) 0) 10) a.0.0 in
    let lines = (yes_parts (line_questions head 0 (lines_of t)) _ a.0.1).1.0 in (
      leb→le (length t) 4096 (and_r (leb 1 (length t)) (leb (length t) 4096) sized),
      omega (arith, count, leb→le (length (lines_of t)) 256 lines),
    )

-- rows whose kinds are words'
abbrev pub Listed : List Row → Type 0
Listed R = Each (λ (r : Row). r.0 < length words) R

-- rows that are passed are such
pub walk_listed : (R : List Row) (p m : ℕ) (next : Answer) → listed_from p R next ≡ Ok m → Listed R
unfolding listed_from Each
walk_listed [] p m next e = tt
walk_listed (r ∷ rs) p m next e = go (is_listed r.0) refl e (walk_listed rs (suc p) m next)
  where
    go : (b : Bool) → is_listed r.0 ≡ b → cond b (listed_from (suc p) rs next) (Err (LineForm (suc p))) ≡ Ok m
        → (listed_from (suc p) rs next ≡ Ok m → Listed rs) → (r.0 < length words) × Listed rs
    go true is f rest = (ltb-true r.0 (length words) is, rest f)
    go false is f rest = passed_refused (sym f)

-- a row that is read is a word's, with a number in range
module _ (ws : List (List ℕ)) where
  abbrev pub rows_of_text : List ℕ → List Row
  rows_of_text t = rows_in (look_up ws) (lines_of t)

  line_printable : (l : List ℕ) (k : ℕ) (z : ℤ) → line_of (look_up ws) l ≡ Some (k, z) → Printable ws (k, z)
  unfolding line_of
  line_printable l k z e =
      let both = paired_row (look_up ws (before_comma l)) (numeral_of (after_comma l)) k z e in
      record { listed = (found_word ws (before_comma l) k both.0).0; number = in_range_holds (after_comma l) both.1 }

  pub rows_printable : (ls : List (List ℕ)) → Each (Printable ws) (rows_in (look_up ws) ls)
  unfolding rows_in Each
  rows_printable [] = tt
  rows_printable (l ∷ ls) = go (line_of (look_up ws) l) refl (rows_printable ls)
    where
      go : (x : Option Row) → line_of (look_up ws) l ≡ x → Each (Printable ws) (rows_in (look_up ws) ls) → Each (Printable ws) (add_row x (rows_in (look_up ws) ls))
      go (Some (k, z)) is rest = (line_printable l k z is, rest)
      go None is rest = rest

  pub printable_numbers : (R : List Row) → Each (Printable ws) R → Numbers32 R
  unfolding Each
  printable_numbers [] h = tt
  printable_numbers (r ∷ rs) h = (h.0.number, printable_numbers rs h.1)

  pub printable : length ws ≡ length words → (R : List Row) → Listed R → Numbers32 R → Each (Printable ws) R
  unfolding Each
  printable c [] l n = tt
  printable c (r ∷ rs) l n = (record { listed = omega (arith, c, l.0); number = n.0 }, printable c rs l.1 n.1)

  -- ---- what the check of a text is made of

  pub read_text : (t : List ℕ) (n : ℕ) → reading (look_up ws) plan_limits t ≡ Ok n → check_plan_text ws t ≡ check_plan_rows (rows_of_text t)
  unfolding check_plan_text
  read_text t n e = ap (λ (r : Answer). unless_refused r (check_plan_rows (rows_of_text t))) e

  pub unread_text : (t : List ℕ) (q : Refusal) → reading (look_up ws) plan_limits t ≡ Err q → check_plan_text ws t ≡ Err q
  unfolding check_plan_text
  unread_text t q e = ap (λ (r : Answer). unless_refused r (check_plan_rows (rows_of_text t))) e

  -- a text is read or refused
  by_reading : {A : Type 0} (t : List ℕ) → ((n : ℕ) → reading (look_up ws) plan_limits t ≡ Ok n → A)
      → ((q : Refusal) → reading (look_up ws) plan_limits t ≡ Err q → A) → A
  by_reading {A} t well ill = go (reading (look_up ws) plan_limits t) refl
    where
      go : (r : Answer) → reading (look_up ws) plan_limits t ≡ r → A
      go (Ok n) e = well n e
      go (Err q) e = ill q e

-- ---- accepted

module _ (ws : List (List ℕ)) (good : Good ws) where
  -- a plan's rows can be printed, and are read back
  plan_printable : (P : Plan) → Admitted P → Numbers32 (plan_rows P) → Each (Printable ws) (plan_rows P)
  unfolding walk_table
  plan_printable P a n =
      let w : WalksWell sort.Plan (plan_rows P) = (plan_walks (plan_rows P)).1 (P, a.in_range_holds, refl) in
      printable ws good.count (plan_rows P) (walk_listed (plan_rows P) 0 (length (plan_rows P)) _ w) n

  plan_rows_back : (P : Plan) (t : List ℕ) → Admitted P → Numbers32 (plan_rows P) → t ≡ text_of ws (plan_rows P) → rows_of_text ws t ≡ plan_rows P
  plan_rows_back P t a n e = ap (rows_of_text ws) e ∙ rows_back ws good (plan_rows P) (plan_printable P a n)

  pub accepted_text : (t : List ℕ) (n : ℕ) → check_plan_text ws t ≡ Ok n → AcceptedText ws t n
  accepted_text t n e =
      by_reading ws t
      (λ m r.
      let R : List Row = rows_of_text ws t in
      let c : check_plan_rows R ≡ Ok n = sym (read_text ws t m r) ∙ e in
      let long : length R ≡ n = (passed_rows R n c).1 in
      let within = read_within (look_up ws) t m r in
      let few : length R ≤ 256 = omega (arith, rows_read (look_up ws) plan_limits t m r, within.1) in
      let a : AcceptedRows R = accepted_rows R few (c ∙ ap Ok (sym long)) in
      record {
        plan = a.plan;
        admitted = a.admitted;
        numbers = subst Numbers32 a.rows (printable_numbers ws R (rows_printable ws (lines_of t)));
        text = sym (prints_back ws plan_limits t m r) ∙ ap (text_of ws) a.rows;
        short = within.0;
        count = ap length (sym a.rows) ∙ long;
        only = λ Q f k d. a.only Q (plan_rows_back Q t d k f);
      })
      (λ q r. passed_refused (sym e ∙ unread_text ws t q r))

  pub text_accepted : (t : List ℕ) (n : ℕ) → AcceptedText ws t n → check_plan_text ws t ≡ Ok n
  unfolding plan_rows
  text_accepted t n a =
      let P : Plan = a.plan in
      let p = plan_printable P a.admitted a.numbers in
      let fits : length (text_of ws (plan_rows P)) ≤ 4096 = subst (λ (u : List ℕ). length u ≤ 4096) a.text a.short in
      let r : reading (look_up ws) plan_limits t ≡ Ok (length (plan_rows P)) =
      ap (reading (look_up ws) plan_limits) a.text
      ∙ reads_back ws good plan_limits (plan_rows P) p (omega arith) fits a.admitted.within.rows_few in
      read_text ws t (length (plan_rows P)) r
      ∙ ap check_plan_rows (plan_rows_back P t a.admitted a.numbers a.text)
      ∙ admitted_rows P a.admitted
      ∙ ap Ok a.count
