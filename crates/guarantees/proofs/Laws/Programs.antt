-- Demand 1 of what the two programs print. Assumes nothing.
use Rattle.std.specs.Prelude.{Bool, ◌≡◌, eqb, leb, ℤ, Ok, Err}
use Rattle.loops.specs.Checked.{Checked, passing}
use Rattle.refusals.specs.Answers.{Answer}
use Rattle.std.proofs.Math.Bool.{true, false, cond}
use Rattle.std.proofs.Math.Path.{refl, ap}
use Rattle.std.proofs.Common.{sym, ◌∙◌}
use mathlib.Core.List.{List, [], ◌∷◌, ◌++◌}
use Prim.Native.Nat.{ℕ}
use Rattle.std.proofs.Math.ListN.{length}
use Rattle.refusals.specs.declared.Refusal.{Refusal}
use Rattle.refusals.specs.declared.Refusal.TheVariants.{LentSize, StoreSize}
use Rattle.words.specs.Kinds.{Row}
use Rattle.lines.specs.Lent.{text_rows}
use Rattle.lines.specs.Printing.{text_of, printing}
use Rattle.texts.specs.Texts.{lines_of}
use Rattle.lines.specs.Reading.{filled}
use Rattle.meaning.specs.Terms.{Plan}
use Rattle.meaning.specs.Numbers.{clamped32}
use Rattle.meaning.specs.Loops.{Loops}
use Rattle.meaning.specs.Layout.{all_cells, need}
use Rattle.meaning.specs.Runs.{State}
use Rattle.syntax.specs.Reading.{plan_of, loops_of}
use Rattle.interpreter.specs.Orders.{run_of}
use Rattle.typing.specs.Questions.{Question, question, ask}
use Rattle.typing.specs.TypeQuestions.{plan_questions}
use Rattle.loops.specs.Check.{check_loops_text}
use Rattle.translate.specs.Entry.{made_rows, make_text}
use Rattle.translate.specs.Questions.{made_questions}
use Rattle.run.specs.Run.{Ran, finished, refused}
use Rattle.values.specs.Values.{filling}
use Rattle.programs.specs.Printed.{made_text, translator_text, PutInto}
use Rattle.programs.specs.Runner.{ask_values, with_values, after_values, values_run, print_checked, runner_outcome}
use Rattle.programs.specs.Runner.{outcome_text, runner_text, ShownInto}
use Rattle.programs.specs.Promises.{PrintsLoops, PrintsRun}
use Rattle.guarantees.specs.Told.{Told, refusal, told_answer}
use Rattle.guarantees.specs.Answers.{Answers}
use Rattle.guarantees.specs.Questions.{loops_door, loops_questions, text_room, store_room, fill_questions, values_questions, output_room}
use Rattle.guarantees.specs.Runs.{run_in_order}
use Rattle.guarantees.specs.Demand1.{OfPlan, OfLoops, TextLeft, ShowsRefusal, ShowsRun}
use Rattle.guarantees.proofs.Laws.Asked.{answers}
use Rattle.guarantees.proofs.Laws.Doors.{loops_are, loops_check_asks}
use Rattle.guarantees.proofs.Laws.Filling.{filling_asks}
use Rattle.guarantees.proofs.Laws.LoopsEntries.{run_in_order_holds, of_loops_holds, loops_told}
use Rattle.guarantees.proofs.Laws.PlanEntries.{of_plan_holds, make_told}
use Rattle.guarantees.proofs.Laws.Told.{no_value, no_run, told_asks, told_further, answer_refused, answer_done}
use Rattle.words.specs.Good.{Good}

-- an answer that depends on room alone
room_answers : (b : Bool) (n : ℕ) (Kept Left : Type 0) (r : Answer) → r ≡ cond b (Ok n) (Err LentSize)
    → (b ≡ false → Kept) → (b ≡ true → Left) → Answers (question b LentSize ∷ []) n Kept Left (told_answer r)
unfolding ask
room_answers true n Kept Left r e kept left =
    answers (question true LentSize ∷ []) n Kept Left (told_answer r) (ap told_answer e) (λ q f. no_value (sym (ap told_answer e) ∙ f))
    (λ f. left refl)
room_answers false n Kept Left r e kept left =
    answers (question false LentSize ∷ []) n Kept Left (told_answer r) (ap told_answer e) (λ q f. kept refl)
    (λ f. no_value (sym f ∙ ap told_answer e))

-- a text put into a lent one
pub put_answers : {text u u' : List ℕ} {r : Answer} → PutInto text u r u'
    → Answers (text_room text (length u)) (length text) (u' ≡ u) (TextLeft text u u') (told_answer r)
unfolding printing
put_answers {text} {u} {u'} {r} I =
    let left : (b : Bool) → leb (length text) (length u) ≡ b → u' ≡ filled b text u = λ b e. I.text_left ∙ ap (λ (x : Bool). filled x text u) e in
    room_answers (leb (length text) (length u)) (length text) (u' ≡ u) (TextLeft text u u') r I.answer (left false) (left true)

-- the same, with room for the longest output and a store: what follows from the store left is `Left`
pub shown_answers : {text : List ℕ} {end s s' : List ℤ} {u u' : List ℕ} {r : Answer} → ShownInto text end s u r s' u'
    → (Left : Type 0) → (s' ≡ end → Left)
    → Answers (output_room (length u)) (length text) ((u' ≡ u) × (s' ≡ s)) (TextLeft text u u' × Left) (told_answer r)
shown_answers {text} {end} {s} {s'} {u} {u'} {r} I Left left =
    let put : (b : Bool) → leb 69648 (length u) ≡ b → u' ≡ filled b text u = λ b e. I.text_left ∙ ap (λ (x : Bool). filled x text u) e in
    let store : (b : Bool) → leb 69648 (length u) ≡ b → s' ≡ cond b end s = λ b e. I.store_left ∙ ap (λ (x : Bool). cond x end s) e in
    room_answers (leb 69648 (length u)) (length text) ((u' ≡ u) × (s' ≡ s)) (TextLeft text u u' × Left) r I.answer
    (λ e. (put false e, store false e)) (λ e. (put true e, left (store true e)))

-- ws is any good table of words.
module _ (ws : List (List ℕ)) (good : Good ws) where
  -- ---- the translator

  pub print_loops : (t u u' : List ℕ) (r : Answer) → PrintsLoops ws t u r u'
      → (told : Told) × (text : List ℕ) × Answers (text_room text (length u)) (length text) (u' ≡ u) (TextLeft text u u') (told_answer r)
      × OfPlan ws t (λ P. plan_questions P ++ made_questions P) (λ P. length (made_rows P)) (ShowsRefusal told text)
      (λ P. text ≡ text_of ws (made_rows P)) told
  unfolding printing translator_text ask
  print_loops t u u' r I =
      let P : Plan = plan_of (text_rows ws t) in
      let S : List ℕ = text_of ws (made_rows P) in
      let made : Answer = make_text ws t in
      let text : List ℕ = made_text made S in (
        told_answer made,
        text,
        put_answers I,
        of_plan_holds ws good t (λ Q. plan_questions Q ++ made_questions Q) (λ Q. length (made_rows Q)) (ShowsRefusal (told_answer made) text)
            (λ Q. text ≡ text_of ws (made_rows Q)) (told_answer made)
            (make_told ws good t told_answer (λ q. refl) [] (length (made_rows P)) refl)
            (λ q e. answer_refused made q e (λ p f. (p, ap told_answer f, ap (λ (v : Answer). made_text v S) f)))
            (λ e. answer_done made (length (made_rows P)) e (λ n f. ap (λ (v : Answer). made_text v S) f)),
      )

  -- ---- the runner

  module _ (v : List ℕ) (s : List ℤ) (L : Loops) where
    abbrev n : ℕ
    n = all_cells L.inputs

    abbrev held : List ℤ
    held = with_values v n s

    abbrev end : State clamped32
    end = run_in_order 0 L held

    -- the values, and then the run
    values_told : told_answer (values_run v L s).answer ≡ ask refusal (values_questions v (length s) L) (Told.value end.writes)
    unfolding values_run ask
    values_told = go (eqb n 0) ∙ ap (λ (st : State clamped32). ask refusal (values_questions v (length s) L) (Told.value st.writes)) (run_in_order_holds ws good 0 L held)
      where
        go : (b : Bool) → told_answer (after_values (cond b (Ok 0) (filling v n (length s))) L held s).answer
            ≡ ask refusal (cond b [] (fill_questions v n (length s))) (Told.value (run_of L 0 held).writes)
        go true = refl
        go false =
            told_asks Err (λ x. told_answer (after_values x L held s).answer) (λ q. refl) (fill_questions v n (length s))
            (Ok (length (lines_of v))) (filling v n (length s)) (filling_asks v n (length s))

    -- and 14 before them
    passed_told : told_answer (cond (leb (need L) (length s)) (values_run v L s) (refused StoreSize s)).answer
        ≡ ask refusal (store_room (length s) L ++ values_questions v (length s) L) (Told.value end.writes)
    unfolding ask
    passed_told = go (leb (need L) (length s))
      where
        go : (b : Bool) → told_answer (cond b (values_run v L s) (refused StoreSize s)).answer
            ≡ cond b (ask refusal (values_questions v (length s) L) (Told.value end.writes)) (refusal StoreSize)
        go true = values_told
        go false = refl

    -- ---- what is left

    values_left : (x : Answer) (w : ℕ) → (after_values x L held s).answer ≡ Ok w → after_values x L held s ≡ finished (run_of L 0 held)
    values_left (Ok m) w e = refl
    values_left (Err q) w e = no_run e

    values_kept : (x : Answer) (q : Refusal) → (after_values x L held s).answer ≡ Err q → after_values x L held s ≡ refused q s
    values_kept (Ok m) q e = no_run (sym e)
    values_kept (Err p) q e = let same : p ≡ q = cc in ap (λ (x : Refusal). refused x s) same

    run_left : (c : Checked) (w : ℕ) → (print_checked c v L s).answer ≡ Ok w → print_checked c v L s ≡ finished end
    unfolding values_run
    run_left (Ok p) w e = go (leb p.need (length s)) e ∙ ap finished (run_in_order_holds ws good 0 L held)
      where
        go : (b : Bool) → (cond b (values_run v L s) (refused StoreSize s)).answer ≡ Ok w
            → cond b (values_run v L s) (refused StoreSize s) ≡ finished (run_of L 0 held)
        go true f = values_left (ask_values v n (length s)) w f
        go false f = no_run f
    run_left (Err q) w e = no_run e

    run_kept : (c : Checked) (q : Refusal) → (print_checked c v L s).answer ≡ Err q → print_checked c v L s ≡ refused q s
    unfolding values_run
    run_kept (Ok p) q e = go (leb p.need (length s)) e
      where
        go : (b : Bool) → (cond b (values_run v L s) (refused StoreSize s)).answer ≡ Err q
            → cond b (values_run v L s) (refused StoreSize s) ≡ refused q s
        go true f = values_kept (ask_values v n (length s)) q f
        go false f = let same : StoreSize ≡ q = cc in ap (λ (x : Refusal). refused x s) same
    run_kept (Err p) q e = let same : p ≡ q = cc in ap (λ (x : Refusal). refused x s) same

  pub print_run : (t v : List ℕ) (s s' : List ℤ) (u u' : List ℕ) (r : Answer) → PrintsRun ws t v s u r s' u'
      → (told : Told) × (text : List ℕ) × Answers (output_room (length u)) (length text) ((u' ≡ u) × (s' ≡ s))
      (TextLeft text u u' × OfLoops ws t (λ L. loops_questions L ++ (store_room (length s) L ++ values_questions v (length s) L))
      (λ L. (run_in_order 0 L (with_values v (all_cells L.inputs) s)).writes) (ShowsRefusal told text × (s' ≡ s)) (ShowsRun v s s' text) told)
      (told_answer r)
  unfolding runner_outcome runner_text
  print_run t v s s' u u' r I =
      let R : List Row = text_rows ws t in
      let L : Loops = loops_of R in
      let c : Checked = check_loops_text ws t in
      let o : Ran = print_checked c v L s in
      let told : Told = told_answer o.answer in
      let text : List ℕ = outcome_text L o in
      let more : Loops → List Question = λ M. loops_questions M ++ (store_room (length s) M ++ values_questions v (length s) M) in
      let writes : Loops → ℕ = λ M. (run_in_order 0 M (with_values v (all_cells M.inputs) s)).writes in
      let asks : told ≡ ask refusal (loops_door ws t ++ more L) (Told.value (writes L)) =
      told_further (loops_door ws t) (loops_questions L) (store_room (length s) L ++ values_questions v (length s) L) told (Told.value (writes L))
      (loops_told ws good R (loops_door ws t) c (loops_are ws good t) (loops_check_asks ws good t) (λ x. told_answer (print_checked x v L s).answer) (λ q. refl)
      ∙ ap (ask refusal (loops_door ws t ++ loops_questions L)) (passed_told v s L)) in (
        told,
        text,
        shown_answers I _
            (λ store.
            of_loops_holds ws good R (loops_door ws t) c (loops_are ws good t) (loops_check_asks ws good t) more writes (ShowsRefusal told text × (s' ≡ s)) (ShowsRun v s s' text) told
            asks
            (λ q f.
            answer_refused o.answer q f
            (λ p g.
            let k : o ≡ refused p s = run_kept v s L c p g in (
              (p, ap told_answer g, ap (outcome_text L) k),
              store ∙ ap (λ (x : Ran). x.store) k,
            )))
            (λ f.
            answer_done o.answer (writes L) f
            (λ w g.
            let k : o ≡ finished (run_in_order 0 L (with_values v (all_cells L.inputs) s)) = run_left v s L c w g in (
              store ∙ ap (λ (x : Ran). x.store) k,
              ap (outcome_text L) k,
            )))),
      )
