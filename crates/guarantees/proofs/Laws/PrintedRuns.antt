-- Demand 3 of the runner: it prints the lines of the plan's value and of the writes counted from the plan; and that every mixing leaves what
-- a run left. Assumes nothing.
use Rattle.std.specs.Prelude.{◌≡◌, refl, ℕ, ◌≤◌, T, drop, Err}
use Rattle.loops.specs.Checked.{passing}
use Rattle.refusals.specs.Answers.{Answer}
use Rattle.std.proofs.Common.{sym, ap₂, ◌∙◌, arith, le-leb}
use Rattle.std.proofs.Math.Path.{ap, subst}
use mathlib.Core.List.{List, ◌++◌, map}
use Rattle.std.proofs.Math.IntN.{ℤ}
use Rattle.std.proofs.Math.ListN.{length, length-map, length-append, length-drop}
use Rattle.refusals.specs.declared.Refusal.{Refusal}
use Rattle.lines.specs.Lent.{text_rows}
use Rattle.meaning.specs.Terms.{Plan}
use Rattle.meaning.specs.Numbers.{clamped32}
use Rattle.meaning.specs.Sequence.{up_from}
use Rattle.meaning.specs.Values.{flatten}
use Rattle.meaning.specs.Loops.{Loops}
use Rattle.meaning.specs.Layout.{need}
use Rattle.meaning.specs.Runs.{State, RunOf}
use Rattle.meaning.specs.Rows.{loops_rows}
use Rattle.meaning.specs.Translation.{translation}
use Rattle.meaning.specs.Counts.{plan_writes}
use Rattle.meaning.specs.Demand3.{plan_value, Outcome}
use Rattle.meaning.proofs.Laws.Orders.{up_from_length}
use Rattle.meaning.proofs.Theorems.{demand_3_on_cells}
use Rattle.mixing.proofs.Theorems.{mixing_as_run}
use Rattle.syntax.specs.Reading.{plan_of, loops_of}
use Rattle.syntax.specs.Theorems.{loops_read}
use Rattle.typing.specs.Questions.{Question, AllYes}
use Rattle.typing.proofs.Laws.Questions.{yes_append, yes_parts, end_asked}
use Rattle.loops.specs.Check.{check_loops_text}
use Rattle.run.specs.Theorems.{run_is_run}
use Rattle.translate.specs.Accepted.{TextPlan}
use Rattle.values.specs.Values.{value_of, value_lines}
use Rattle.programs.specs.Runner.{with_values, output_cells, finished_text}
use Rattle.programs.specs.Promises.{PrintsRun}
use Rattle.guarantees.specs.Told.{Told, told_answer}
use Rattle.guarantees.specs.Questions.{loops_door, loops_questions, store_room, values_questions, output_room}
use Rattle.guarantees.specs.Runs.{run_in_order}
use Rattle.guarantees.specs.Ways.{MadeText}
use Rattle.guarantees.specs.Demand1.{TextLeft, ShowsRun}
use Rattle.guarantees.specs.Demand3.{input_count, MixingsLeave, PrintedRightly}
use Rattle.guarantees.proofs.Laws.Doors.{loops_check_asks}
use Rattle.guarantees.proofs.Laws.LoopsEntries.{run_in_order_holds}
use Rattle.guarantees.proofs.Laws.Programs.{print_run}
use Rattle.guarantees.proofs.Laws.Made.{Yes, the_plan, made_text_holds, back, text_passes}
use Rattle.words.specs.Good.{Good}

-- ws is any good table of words.
module _ (ws : List (List ℕ)) (good : Good ws) where
  no_pass : {A : Type 0} {w n : ℕ} {q : Refusal} → Err q ≡ passing w n → A
  no_pass e = absurd (let clash : ◌≡◌ {A = ℕ} 0 1 = cc in omega arith)

  -- what a run came to, its store written down again
  pub come_to : (P : Plan) (s s' : List ℤ) (st : State clamped32) → s' ≡ st.store → Outcome clamped32 P s st
      → Outcome clamped32 P s (record { store = s'; writes = plan_writes P })
  come_to P s s' st e o =
      subst (λ (x : List ℤ). Outcome clamped32 P s (record { store = x; writes = plan_writes P })) (sym e)
      (record {
        output_holds = o.output_holds;
        inputs_kept = o.inputs_kept;
        beyond_kept = o.beyond_kept;
        length_kept = o.length_kept;
        writes_counted = refl;
      })

  module _ (t : List ℕ) (y : Yes ws good t) where
    abbrev P : Plan
    P = plan_of (text_rows ws t)

    abbrev L : Loops
    L = translation P

    pub every : (s : List ℤ) → need L ≤ length s → (st : State clamped32) → RunOf clamped32 L s st → Outcome clamped32 P s st
    every s long =
        let T : TextPlan ws t P = the_plan ws good t y.door y.typed in
        (demand_3_on_cells P T.type T.well_typed s long).1

    -- every mixing leaves what a run left
    pub mixings_leave : (s s' : List ℤ) → need L ≤ length s → (st : State clamped32) → RunOf clamped32 L s st → s' ≡ st.store
        → MixingsLeave P s s'
    mixings_leave s s' long st run e l m =
        let T : TextPlan ws t P = the_plan ws good t y.door y.typed in
        mixing_as_run clamped32 P T.type T.well_typed s l m st run
        ∙ ap₂ (λ (x : List ℤ) (w : ℕ). record { store = x; writes = w }) (sym e) (every s long st run).writes_counted

    module _ (v : List ℕ) (s : List ℤ) (long : need L ≤ length s) where
      abbrev held : List ℤ
      held = with_values v (input_count P) s

      held_long : need L ≤ length held
      unfolding need translation
      held_long =
          let put : List ℤ = map (value_of (value_lines v)) (up_from 0 (input_count P)) in
          let count : length put ≡ input_count P = length-map (up_from 0 (input_count P)) (value_of (value_lines v)) ∙ up_from_length 0 (input_count P) in
          omega (arith, long, length-append put (drop (input_count P) s), length-drop (input_count P) s, count)

      abbrev end : State clamped32
      end = run_in_order 0 L held

      runs : RunOf clamped32 L held end
      runs = subst (RunOf clamped32 L held) (run_in_order_holds ws good 0 L held) (run_is_run L 0 held)

      ended : Outcome clamped32 P held end
      ended = every held held_long end runs

      -- what the runner showed of the loops x, which are those of the plan
      shown : (s' : List ℤ) (text : List ℕ) (x : Loops) → x ≡ L → ShowsRun v s s' text x
          → (text ≡ finished_text (flatten (plan_value clamped32 P held)) (plan_writes P))
          × Outcome clamped32 P held (record { store = s'; writes = plan_writes P })
          × MixingsLeave P held s'
      unfolding translation
      shown s' text x same h =
          let g : ShowsRun v s s' text L = subst (ShowsRun v s s' text) same h in (
            g.1
                ∙ ap (λ (w : ℕ). finished_text (output_cells L end.store) w) ended.writes_counted
                ∙ ap (λ (z : List ℤ). finished_text z (plan_writes P)) ended.output_holds,
            come_to P held s' end g.0 ended,
            mixings_leave held s' held_long end runs g.0,
          )

      pub printed_run : {u : List ℕ} → MadeText ws t u → (s' : List ℤ) (l l' : List ℕ) (r : Answer) → PrintsRun ws u v s l r s' l'
          → AllYes (output_room (length l)) → AllYes (values_questions v (length s) L) → PrintedRightly P held l (told_answer r) s' l'
      printed_run {u} M s' l l' r I room values =
          let m = made_text_holds ws good t M in
          let M' : Loops = loops_of (text_rows ws u) in
          let passes : check_loops_text ws u ≡ passing (plan_writes P) (need L) = ap (check_loops_text ws) m.1 ∙ text_passes ws good t y in
          let asked = (end_asked Err (loops_door ws u ++ loops_questions M') _ (passing (plan_writes P) (need L)) (λ q f. no_pass f)
          (sym (loops_check_asks ws good u) ∙ passes)).0 in
          let yes = yes_parts (loops_door ws u) (loops_questions M') asked in
          let rows : text_rows ws u ≡ loops_rows L = ap (text_rows ws) m.1 ∙ back ws good t y in
          let p = print_run ws good u v s s' l l' r I in
          let a = p.2.all_yes room in
          let b = a.1.1.behind yes.0 in
          let same : L ≡ b.0 = b.2 L rows in
          let one : M' ≡ b.0 = ap loops_of b.1 ∙ loops_read b.0 in
          let later : Loops → List Question = λ x. store_room (length s) x ++ values_questions v (length s) x in
          let here : AllYes (later L) = (subst T (sym (le-leb (need L) (length s) long)) tt, values) in
          let more : AllYes (loops_questions b.0 ++ later b.0) =
          yes_append (loops_questions b.0) (later b.0) (subst (λ (x : Loops). AllYes (loops_questions x)) one yes.1)
          (subst (λ (x : Loops). AllYes (later x)) same here) in
          let d = shown s' p.1 b.0 (sym same) (b.3.all_yes more).1 in (
            a.0 ∙ ap (λ (z : List ℕ). Told.value (length z)) d.0,
            subst (λ (z : List ℕ). TextLeft z l l') d.0 a.1.0,
            d.1,
            d.2,
          )
