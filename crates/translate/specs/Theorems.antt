-- What is proved of the translator's entries, in one place. It rests on `make_text` and `TextInto` (Entry) and `TableInto` (lines, Lent), which are what
-- `translate_rows` and `translate_text` promise for every input; on the list of questions in order (Questions); on the plan of a text
-- (Accepted); on `translation`, `loops_rows`, `plan_writes` and `need` of `meaning`, `check_plan_text` of `typing` and of `loops`, and
-- `lines_of` and `rows_in` of `lines`. The proofs stand in Laws.
use Rattle.std.specs.Prelude.{Bool, true, false, cond, ◌≡◌, refl, List, ℕ, ◌≤◌, leb, length, take, drop, Ok, Err}
use Rattle.loops.specs.Checked.{passing}
use Rattle.std.proofs.Common.{sym, ap, ◌∙◌, arith, le-leb, take_at, drop_at}
use Rattle.refusals.specs.declared.Refusal.{Refusal}
use Rattle.refusals.specs.declared.Refusal.TheVariants.{LentSize}
use Rattle.refusals.specs.Answers.{unless_refused, Answer}
use Rattle.words.specs.Good.{Good}
use Rattle.words.specs.Words.{look_up}
use Rattle.texts.specs.Texts.{lines_of}
use Rattle.lines.specs.Reading.{rows_in}
use Rattle.lines.specs.Printing.{text_of, printing}
use Rattle.meaning.specs.Terms.{Plan}
use Rattle.meaning.specs.Layout.{need}
use Rattle.meaning.specs.Counts.{plan_writes}
use Rattle.meaning.specs.Rows.{loops_rows}
use Rattle.meaning.specs.Translation.{translation}
use Rattle.loops.specs.Check as loops
use Rattle.loops.specs.TextTheorems.{own_text_size, own_text_back, own_text_passes}
use Rattle.translate.specs.Entry.{made_rows, plan_in, rows_made, make_text, TextInto}
use Rattle.translate.specs.Accepted.{TextPlan}
use Rattle.translate.specs.Laws.Answers.{text_made, text_count}
use Rattle.translate.specs.Laws.Texts.{text_plan}

same_printed : {p q : Refusal} → ◌≡◌ {A = Answer} (Err p) (Err q) → p ≡ q
same_printed e = cc

printed_refused : {A : Type 0} {n : ℕ} {q : Refusal} → ◌≡◌ {A = Answer} (Ok n) (Err q) → A
printed_refused e = absurd (let clash : ◌≡◌ {A = ℕ} 0 1 = cc in omega arith)

-- What was put into a lent text: its first n bytes read back to the rows of the translation ([1.9]), and pass the check of loops
-- ([9.9]), which counts the plan's w ([7.3]); and what stands behind them is as it was ([10.22]).
pub record TextMade (ws : List (List ℕ)) (t text text' : List ℕ) (n : ℕ) (P : Plan) : Type 0 where
  pub plan : TextPlan ws t P
  pub rows : rows_in (look_up ws) (lines_of (take n text')) ≡ loops_rows (translation P)
  pub passes : loops.check_loops_text ws (take n text') ≡ passing (plan_writes P) (need (translation P))
  pub few : n ≤ 65536
  pub behind : drop n text' ≡ drop n text

pub text_put : (ws : List (List ℕ)) (good : Good ws) (t text text' : List ℕ) (n : ℕ) → TextInto ws (make_text ws t) (rows_made ws t) text (Ok n) text' → TextMade ws t text text' n (plan_in ws t)
unfolding printing
text_put ws good t text text' n I = go (make_text ws t) refl I.answer
  where
    Q : Plan
    Q = plan_in ws t

    S : List ℕ
    S = text_of ws (made_rows Q)

    count : Ok n ≡ printing S (length text) → length S ≡ n
    count e = by (leb (length S) (length text)) e
      where
        by : (b : Bool) → Ok n ≡ cond b (Ok (length S)) (Err LentSize) → length S ≡ n
        by true f = cc
        by false f = printed_refused f

    go : (v : Answer) → make_text ws t ≡ v → Ok n ≡ unless_refused v (printing S (length text)) → TextMade ws t text text' n Q
    go (Err q) f e = printed_refused e
    go (Ok m) f e =
        let c = text_count ws t m f in
        let passed = (text_made ws t m f).0 in
        let p = text_plan ws t passed.0 passed.1 in
        let short = own_text_size ws good Q p.type p.well_typed p.within p.numbers in
        let l = count e in
        let front : take n text' ≡ S = ap (take n) I.text_left ∙ take_at S _ n l in
        record {
          plan = p;
          rows = ap (λ (u : List ℕ). rows_in (look_up ws) (lines_of u)) front ∙ own_text_back ws good Q p.type p.well_typed p.within p.numbers;
          passes =
              ap (loops.check_loops_text ws) front
              ∙ own_text_passes ws good Q p.type p.well_typed p.within p.numbers (omega (arith, c.0, c.1)) c.3 c.2;
          few = omega (arith, l, short, c.0, c.1);
          behind = ap (drop n) I.text_left ∙ drop_at S _ n l ∙ ap (λ (i : ℕ). drop i text) l;
        }

-- 65,536 bytes are room for the text of all loops that are made: where so many are lent, only questions 1 to 8, 10, 18 and 11 refuse.
pub room_for_all_holds : (ws : List (List ℕ)) (good : Good ws) (t : List ℕ) (bytes : ℕ) (q : Refusal) → 65536 ≤ bytes
    → unless_refused (make_text ws t) (printing (text_of ws (made_rows (plan_in ws t))) bytes) ≡ Err q → make_text ws t ≡ Err q
unfolding printing
room_for_all_holds ws good t bytes q h e = go (make_text ws t) refl e
  where
    Q : Plan
    Q = plan_in ws t

    S : List ℕ
    S = text_of ws (made_rows Q)

    go : (v : Answer) → make_text ws t ≡ v → unless_refused v (printing S bytes) ≡ Err q → make_text ws t ≡ Err q
    go (Err p) f e = f ∙ ap Err (same_printed e)
    go (Ok m) f e =
        let c = text_count ws t m f in
        let passed = (text_made ws t m f).0 in
        let p = text_plan ws t passed.0 passed.1 in
        let short = own_text_size ws good Q p.type p.well_typed p.within p.numbers in
        printed_refused (sym (ap (λ (b : Bool). cond b (Ok (length S)) (Err LentSize)) (le-leb (length S) bytes (omega (arith, h, short, c.0, c.1)))) ∙ e)
