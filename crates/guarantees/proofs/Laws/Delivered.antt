-- Demand 3: what holds of a plan whose loops were had by any of the ways. Assumes nothing.
use Rattle.std.specs.Prelude.{◌≡◌, List, [], ℕ, ◌≤◌, ℤ, length}
use Rattle.loops.specs.Checked.{Checked, passing}
use Rattle.refusals.specs.Answers.{Answer}
use Rattle.std.proofs.Common.{sym, ap, ◌∙◌, subst}
use Rattle.words.specs.Kinds.{rows_of}
use Rattle.lines.specs.Lent.{text_rows}
use Rattle.meaning.specs.Types.{DataType}
use Rattle.meaning.specs.Terms.{Plan}
use Rattle.meaning.specs.Numbers.{clamped32}
use Rattle.meaning.specs.Shapes.{Shaped}
use Rattle.meaning.specs.Loops.{Loops}
use Rattle.meaning.specs.Layout.{need}
use Rattle.meaning.specs.Runs.{State}
use Rattle.meaning.specs.Translation.{plan_type, translation}
use Rattle.meaning.specs.Counts.{plan_writes}
use Rattle.meaning.specs.Demand3.{plan_value}
use Rattle.meaning.proofs.Laws.Typing.{well_typed}
use Rattle.meaning.proofs.Theorems as meaning
use Rattle.mixing.proofs.Theorems.{demand_3_mixing, mixing_as_run}
use Rattle.syntax.specs.Reading.{plan_of, loops_of}
use Rattle.syntax.specs.Theorems.{loops_read}
use Rattle.interpreter.specs.Orders.{run_of}
use Rattle.loops.specs.Check.{check_table, check_loops_text, need_of}
use Rattle.loops.specs.Promises.{TellsNeed}
use Rattle.translate.specs.Accepted.{TextPlan}
use Rattle.translate.specs.Entry.{made_rows}
use Rattle.run.specs.Run.{Ran, outcome, finished}
use Rattle.run.specs.Promises.{KeepsFrame, RunsText, RunsRows}
use Rattle.run.specs.Theorems.{run_is_run, text_finished, table_finished}
use Rattle.store.specs.Store.{store_of}
use Rattle.guarantees.specs.Told.{Told, told_answer, told_code, cut}
use Rattle.guarantees.specs.Ways.{MadeText, MadeTable}
use Rattle.guarantees.specs.Runs.{run_named}
use Rattle.guarantees.specs.Demand3.{RanRightly, Delivered}
use Rattle.guarantees.proofs.Laws.Codes.{need_loops_c, run_text_c, run_rows_c}
use Rattle.guarantees.proofs.Laws.PrintedRuns.{come_to, every, mixings_leave, printed_run}
use Rattle.guarantees.proofs.Laws.Made.{Yes, the_plan, made_text_holds, made_table, back, text_passes, rows_pass}
use Rattle.words.specs.Good.{Good}

-- ws is any good table of words.
module _ (ws : List (List ℕ)) (good : Good ws) where
  module _ (t : List ℕ) (y : Yes ws good t) where
    abbrev P : Plan
    P = plan_of (text_rows ws t)

    abbrev L : Loops
    L = translation P

    abbrev T : TextPlan ws t P
    T = the_plan ws good t y.door y.typed

    shaped : (s : List ℤ) → Shaped (plan_type P) (plan_value clamped32 P s)
    shaped s =
        subst (λ (x : DataType). Shaped x (plan_value clamped32 P s)) (sym (well_typed T.well_typed).1)
        (meaning.value_shaped clamped32 P T.type T.well_typed s)

    -- ---- an entry that made the run in an order

    module _ (order : ℕ) (c c' : List ℤ) (b b' : List ℕ) (r : Answer) (long : need L ≤ length (store_of c b)) (f : KeepsFrame c b c' b') where
      abbrev st : State clamped32
      st = run_of L order (store_of c b)

      ran_rightly : outcome r (store_of c' b') ≡ finished st → RanRightly P c b (told_answer r) c' b'
      ran_rightly e =
          let runs = run_is_run L order (store_of c b) in
          let o = every ws good t y (store_of c b) long st runs in
          let answer = ap (λ (x : Ran). x.answer) e in
          let store : store_of c' b' ≡ st.store = ap (λ (x : Ran). x.store) e in
          record {
            told = ap told_answer answer ∙ ap Told.value o.writes_counted;
            outcome = come_to ws good P (store_of c b) (store_of c' b') st store o;
            others = f;
            mixings = mixings_leave ws good t y (store_of c b) (store_of c' b') long st runs store;
          }

      pub text_run : {u : List ℕ} → MadeText ws t u → order ≤ 2 → RunsText ws u order c b r c' b' → RanRightly P c b (told_answer r) c' b'
      text_run {u} M few e =
          let x = made_text_holds ws good t M in
          let passes : check_loops_text ws u ≡ passing (plan_writes P) (need L) = ap (check_loops_text ws) x.1 ∙ text_passes ws good t y in
          let loops : loops_of (text_rows ws u) ≡ L = ap (λ (v : List ℕ). loops_of (text_rows ws v)) x.1 ∙ ap loops_of (back ws good t y) ∙ loops_read L in
          ran_rightly
          (e
          ∙ text_finished ws u (plan_writes P) (need L) order (store_of c b) passes few long
          ∙ ap (λ (M : Loops). finished (run_of M order (store_of c b))) loops)

      pub table_run : {k : List ℕ} {n : List ℤ} → MadeTable ws t k n → order ≤ 2 → RunsRows k n order c b r c' b' → RanRightly P c b (told_answer r) c' b'
      table_run {k} {n} M few e =
          let rows : rows_of k n ≡ made_rows P = (made_table ws good t M).1 in
          let loops : loops_of (rows_of k n) ≡ L = ap loops_of rows ∙ loops_read L in
          ran_rightly
          (e
          ∙ table_finished (rows_of k n) (plan_writes P) (need L) order (store_of c b) (ap check_table rows ∙ rows_pass ws good t y) few long
          ∙ ap (λ (M : Loops). finished (run_of M order (store_of c b))) loops)

    -- ---- what C is told

    told_c : (c c' : List ℤ) (b b' : List ℕ) (a r : Told) → r ≡ cut a → RanRightly P c b a c' b' → RanRightly P c b r c' b'
    told_c c c' b b' a r e h =
        record { told = e ∙ ap cut h.told; outcome = h.outcome; others = h.others; mixings = h.mixings }

    need_told : {u : List ℕ} → MadeText ws t u → (r : Answer) → TellsNeed ws u r → told_answer r ≡ Told.value (need L)
    need_told {u} M r e =
        ap told_answer e ∙ ap (λ (x : Checked). told_answer (need_of x)) (ap (check_loops_text ws) (made_text_holds ws good t M).1 ∙ text_passes ws good t y)

    pub delivered : Delivered ws t P
    delivered = record {
      value_of_inputs = λ s s' e. meaning.value_of_inputs clamped32 P s s' e;
      value_shaped = shaped;
      run_taken = λ π fair s. meaning.no_order_left_out clamped32 π fair L s;
      run_outcome = λ π fair s long. every ws good t y s long (run_named π L s) (meaning.no_order_left_out clamped32 π fair L s);
      no_other_run = λ s st r. meaning.no_other_run clamped32 L s st r;
      mixing_outcome = λ l m s long. demand_3_mixing clamped32 P T.type T.well_typed s long l m;
      mixing_as_run = λ l m s long st r. mixing_as_run clamped32 P T.type T.well_typed s l m st r;
      need_told = λ u M r e. need_told M r e;
      need_told_c = λ u M r e. let a = need_loops_c ws good u r e in a.2 ∙ ap cut (need_told M a.0 a.1);
      text_run = λ u M order few c c' b b' r long f e. text_run order c c' b b' r long f M few e;
      table_run = λ k n M order few c c' b b' r long f e. table_run order c c' b b' r long f M few e;
      text_run_c = λ u M order few b b' r long e.
          let a = run_text_c ws good u order b b' r e in
          told_c [] [] b b' (told_answer a.0) (told_code r) a.2 (text_run order [] [] b b' a.0 long a.1.1 M few a.1.0);
      printed_run = λ u M v s s' l l' r I room long values. printed_run ws good t y v s long M s' l l' r I room values;
      table_run_c = λ k n M order few b b' r long e.
          let a = run_rows_c ws good k n order b b' r e in
          told_c [] [] b b' (told_answer a.0) (told_code r) a.2 (table_run order [] [] b b' a.0 long a.1.1 M few a.1.0);
    }
