-- What follows where loops were had from a plan's text, by any of the ways: every question was answered "yes", the text's rows are those
-- of one plan, and the loops are those of its translation. Assumes nothing.
use Rattle.std.specs.Prelude.{true, ◌≡◌, refl, List, ◌++◌, ◌↔◌, ℕ, ◌≤◌, ℤ, length, take, Ok, Err}
use Rattle.loops.specs.Checked.{passing}
use Rattle.std.proofs.Common.{sym, ap, ◌∙◌, subst, leb→le}
use Rattle.std.specs.Float.Ieee.Bits.{is_true}
use Rattle.refusals.specs.Answers.{is_told, Answer}
use Rattle.words.specs.Kinds.{Row, rows_of}
use Rattle.lines.specs.Lent.{text_rows}
use Rattle.lines.specs.Printing.{text_of}
use Rattle.lines.specs.Reading.{kinds_of, numbers_of, filled}
use Rattle.lines.proofs.TableLaws.{in_front, rows_in_front}
use Rattle.meaning.specs.Terms.{Plan}
use Rattle.meaning.specs.Layout.{need}
use Rattle.meaning.specs.Rows.{plan_rows}
use Rattle.meaning.specs.Counts.{plan_writes}
use Rattle.meaning.specs.Limits.{lanes_apart}
use Rattle.meaning.specs.Translation.{translation}
use Rattle.syntax.specs.Reading.{plan_of}
use Rattle.syntax.specs.Theorems.{plan_read, plan_unique}
use Rattle.typing.specs.Questions.{Question, ask, AllYes}
use Rattle.typing.specs.TypeQuestions.{plan_questions}
use Rattle.typing.specs.Entry.{check_plan_text}
use Rattle.typing.proofs.Laws.Questions.{yes_append, yes_parts, all_asked, end_asked, ask_through}
use Rattle.typing.proofs.Laws.Sized.{yes_to, plan_fits}
use Rattle.plans.specs.Promises.{ChecksPlan}
use Rattle.loops.specs.Check.{check_table, check_loops_text as check_loops_text}
use Rattle.loops.specs.Promises.{ReadsLoops}
use Rattle.loops.specs.Theorems.{own_pass}
use Rattle.loops.specs.TableTheorems.{few_rows}
use Rattle.loops.specs.TextTheorems.{own_text_back, own_text_passes}
use Rattle.translate.specs.Accepted.{TextPlan}
use Rattle.translate.specs.Entry.{made_rows}
use Rattle.translate.specs.Questions.{made_questions}
use Rattle.translate.specs.Promises.{TranslatesRows, TranslatesText}
use Rattle.translate.specs.Laws.Texts.{text_plan}
use Rattle.guarantees.specs.Told.{Told, refusal, told_answer, cut}
use Rattle.guarantees.specs.Questions.{plan_door}
use Rattle.guarantees.specs.Ways.{MadeText, MadeTable, Translated}
use Rattle.guarantees.specs.Demand2.{PlanAccepted}
use Rattle.guarantees.proofs.Laws.Codes.{translate_c, read_loops_c}
use Rattle.guarantees.proofs.Laws.Doors.{plan_is, plan_asks}
use Rattle.guarantees.proofs.Laws.LoopsEntries.{loops_read_asked}
use Rattle.guarantees.proofs.Laws.PlanEntries.{text_asked, rows_asked}
use Rattle.guarantees.proofs.Laws.Told.{no_value, answer_done}
use Rattle.words.specs.Good.{Good}

-- ws is any good table of words.
module _ (ws : List (List ℕ)) (good : Good ws) where
  -- a value told is the one that was due
  pub value_due : (qs : List Question) (v n : ℕ) (r : Told) → r ≡ ask refusal qs (Told.value v) → r ≡ Told.value n → AllYes qs × (v ≡ n)
  value_due qs v n r asks e =
      let a = end_asked refusal qs (Told.value v) (Told.value n) (λ q f. no_value (sym f)) (sym asks ∙ e) in
      let x : Told.value v ≡ Told.value n = a.1 in
      let same : v ≡ n = cc in
      (a.0, same)

  pub value_cut : (r : Told) (n : ℕ) → cut r ≡ Told.value n → r ≡ Told.value n
  value_cut (Told.refused m l) n e = no_value (sym e)
  value_cut (Told.value v) n e = e

  module _ (t : List ℕ) where
    abbrev R : List Row
    R = text_rows ws t

    abbrev P : Plan
    P = plan_of R

    abbrev S : List ℕ
    S = text_of ws (made_rows P)

    -- ---- the plan of a text that is accepted

    passed : AllYes (plan_door ws t) → AllYes (plan_questions P) → check_plan_text ws t ≡ Ok (length R)
    passed d p = plan_asks ws good t ∙ all_asked Err (plan_door ws t ++ plan_questions P) (Ok (length R)) (yes_append (plan_door ws t) (plan_questions P) d p)

    pub the_plan : AllYes (plan_door ws t) → AllYes (plan_questions P) → TextPlan ws t P
    the_plan d p = text_plan ws t (length R) (passed d p)

    pub accepted_plan : AllYes (plan_door ws t) → AllYes (plan_questions P) → PlanAccepted ws t P
    accepted_plan d p =
        let T = the_plan d p in
        record {
          rows = plan_is ws good t d;
          only = λ Q e. plan_unique Q P (sym e ∙ plan_is ws good t d);
          type = T.type;
          well_typed = T.well_typed;
          limits = d;
          sizes = yes_to 8 (plan_questions P) p;
        }

    same_plan : (Q : Plan) → PlanAccepted ws t Q → Q ≡ P
    same_plan Q A = sym (ap plan_of A.rows ∙ plan_read Q)

    pub accepted_yes : (Q : Plan) → PlanAccepted ws t Q → AllYes (plan_questions P)
    accepted_yes Q A = subst (λ (X : Plan). AllYes (plan_questions X)) (same_plan Q A) (plan_fits Q A.type A.well_typed A.sizes)

    pub accepted_exactly : (r : Answer) → ChecksPlan ws t r → (n : ℕ)
        → (told_answer r ≡ Told.value n) ↔ ((Q : Plan) × PlanAccepted ws t Q × (length (plan_rows Q) ≡ n))
    accepted_exactly r e n = (
      λ f.
          let a = end_asked refusal (plan_door ws t ++ plan_questions P) (Told.value (length R)) (Told.value n) (λ q g. no_value (sym g))
          (sym told ∙ f) in
          let y = yes_parts (plan_door ws t) (plan_questions P) a.0 in
          let x : Told.value (length R) ≡ Told.value n = a.1 in
          let count : length R ≡ n = cc in
          (P, accepted_plan y.0 y.1, ap length (sym (plan_is ws good t y.0)) ∙ count),
      λ h.
          ap told_answer (e ∙ passed h.1.limits (accepted_yes h.0 h.1))
          ∙ ap Told.value (ap length h.1.rows ∙ h.2),
    )
      where
        told : told_answer r ≡ ask refusal (plan_door ws t ++ plan_questions P) (Told.value (length R))
        told = ap told_answer (e ∙ plan_asks ws good t)
            ∙ ask_through Err refusal told_answer (λ q. refl) (plan_door ws t ++ plan_questions P) (Ok (length R))

    -- ---- all "yes" where loops were had

    pub record Yes : Type 0 where
      pub door : AllYes (plan_door ws t)
      pub typed : AllYes (plan_questions P)
      pub few : length (made_rows P) ≤ 4096
      pub apart : lanes_apart (translation P).command ≡ true
      pub writes : plan_writes P ≤ 16777216

    yes : (room : List Question) → AllYes (plan_door ws t ++ (plan_questions P ++ (made_questions P ++ room))) → Yes
    yes room h =
        let a = yes_parts (plan_door ws t) (plan_questions P ++ (made_questions P ++ room)) h in
        let b = yes_parts (plan_questions P) (made_questions P ++ room) a.1 in
        let c = (yes_parts (made_questions P) room b.1).0 in
        record {
          door = a.0;
          typed = b.0;
          few = leb→le (length (made_rows P)) 4096 c.0;
          apart = is_true (lanes_apart (translation P).command) c.1.0;
          writes = leb→le (plan_writes P) 16777216 c.1.1.0;
        }

    put_text : (u u' : List ℕ) (r : Answer) (n : ℕ) → TranslatesText ws t u r u' → told_answer r ≡ Told.value n → Yes × (take n u' ≡ S)
    put_text u u' r n I e =
        let a = value_due _ (length S) n (told_answer r) (text_asked ws good t u u' r I) e in (
          yes _ a.0,
          answer_done r n e
              (λ m f. in_front true S u u' n refl a.1 (I.text_left ∙ ap (λ (x : Answer). filled (is_told x) S u) f)),
        )

    pub made_text_holds : {u : List ℕ} → MadeText ws t u → Yes × (u ≡ S)
    made_text_holds (MadeText.translated u u' r n I e) = put_text u u' r n I e
    made_text_holds (MadeText.translated_c u u' r n I e) =
        let c = translate_c ws good t u u' r I in
        put_text u u' c.0 n c.1 (value_cut (told_answer c.0) n (sym c.2 ∙ e))

    -- ---- tables

    module _ (y : Yes) where
      abbrev T : TextPlan ws t P
      T = the_plan y.door y.typed

      pub back : text_rows ws S ≡ made_rows P
      back = own_text_back ws good P T.type T.well_typed T.within T.numbers

      pub text_passes : check_loops_text ws S ≡ passing (plan_writes P) (need (translation P))
      text_passes = own_text_passes ws good P T.type T.well_typed T.within T.numbers y.few y.apart y.writes

      pub rows_pass : check_table (made_rows P) ≡ passing (plan_writes P) (need (translation P))
      rows_pass = few_rows (made_rows P) y.few ∙ own_pass P T.type T.well_typed T.within y.apart y.writes

    put_rows_holds : (k k' : List ℕ) (n n' : List ℤ) (r : Answer) (m : ℕ) → TranslatesRows ws t k n r k' n' → told_answer r ≡ Told.value m
        → Yes × (rows_of (take m k') (take m n') ≡ made_rows P)
    put_rows_holds k k' n n' r m I e =
        let a = value_due _ (length (made_rows P)) m (told_answer r) (rows_asked ws good t k k' n n' r I) e in (
          yes _ a.0,
          answer_done r m e
              (λ i f.
              rows_in_front true (made_rows P) m k k' n n' refl a.1
              (I.kinds_left ∙ ap (λ (x : Answer). filled (is_told x) (kinds_of (made_rows P)) k) f)
              (I.numbers_left ∙ ap (λ (x : Answer). filled (is_told x) (numbers_of (made_rows P)) n) f)),
        )

    read_rows_holds : {u : List ℕ} → MadeText ws t u → (k k' : List ℕ) (n n' : List ℤ) (r : Answer) (m : ℕ) → ReadsLoops ws u k n r k' n'
        → told_answer r ≡ Told.value m → Yes × (rows_of (take m k') (take m n') ≡ made_rows P)
    read_rows_holds {u} M k k' n n' r m I e =
        let x = made_text_holds M in
        let rows : text_rows ws u ≡ made_rows P = ap (text_rows ws) x.1 ∙ back x.0 in
        let a = value_due _ (length (text_rows ws u)) m (told_answer r) (loops_read_asked ws good u k k' n n' r I) e in (
          x.0,
          answer_done r m e
              (λ i f.
              rows_in_front true (text_rows ws u) m k k' n n' refl a.1
              (I.kinds_left ∙ ap (λ (z : Answer). filled (is_told z) (kinds_of (text_rows ws u)) k) f)
              (I.numbers_left ∙ ap (λ (z : Answer). filled (is_told z) (numbers_of (text_rows ws u)) n) f))
              ∙ rows,
        )

    pub made_table : {k : List ℕ} {n : List ℤ} → MadeTable ws t k n → Yes × (rows_of k n ≡ made_rows P)
    made_table (MadeTable.translated k k' n n' r m I e) = put_rows_holds k k' n n' r m I e
    made_table (MadeTable.read u M k k' n n' r m I e) = read_rows_holds M k k' n n' r m I e
    made_table (MadeTable.read_c u M k k' n n' r m I e) =
        let c = read_loops_c ws good u k k' n n' r I in
        read_rows_holds M k k' n n' c.0 m c.1 (value_cut (told_answer c.0) m (sym c.2 ∙ e))

    pub translated_yes : Translated ws t → Yes
    translated_yes (Translated.into_text u M) = (made_text_holds M).0
    translated_yes (Translated.into_table k n M) = (made_table M).0

    -- the plan that the rows are is the one that is accepted
    pub plan_same : (Q : Plan) → PlanAccepted ws t Q → P ≡ Q
    plan_same Q A = sym (same_plan Q A)
