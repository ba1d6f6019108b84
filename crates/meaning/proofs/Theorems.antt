-- What is proved, in one place: demand 3, which is [9.8], and what goes with it. The proofs are in `Laws`.
use Rattle.std.specs.Prelude.{true, ◌≡◌, refl, ◌↔◌, ◌⊎◌, ℕ, ◌+◌, ◌≤◌, ◌<◌, take, drop, replicate}
use Rattle.std.proofs.Math.Path.{sym, subst}
use Rattle.std.proofs.Common.{◌∙◌, arith, le_refl}
use mathlib.Core.List.{List, [], map, Permᴰ}
use Rattle.std.proofs.Math.Option.{some}
use Rattle.std.proofs.Math.Nat.{zero-add}
use Rattle.std.proofs.Math.ListN.{length}
use Rattle.std.proofs.lemmas.List.{length-replicate}
use Rattle.meaning.specs.Types.{DataType, cells}
use Rattle.meaning.specs.Terms.{LoopKind, Term, Plan}
use Rattle.meaning.specs.Typing.{HasType}
use Rattle.meaning.specs.Numbers.{NumberDomain, clamped32}
use Rattle.meaning.specs.Sequence.{up_from, in_turn}
use Rattle.meaning.specs.Values.{flatten, no_number}
use Rattle.meaning.specs.Shapes.{Shaped}
use Rattle.meaning.specs.Loops.{Loops}
use Rattle.meaning.specs.Layout.{EndsBefore, all_cells, regions_from, need}
use Rattle.meaning.specs.Runs.{Order, Orders, start_of, Store, State, cell, Run, beginning, run_loops, RunOf}
use Rattle.meaning.specs.Arbiters.{Arbiter, run_by}
use Rattle.meaning.specs.NamedOrders.{forward, always}
use Rattle.meaning.specs.Steps.{steps, do_step}
use Rattle.meaning.specs.Translation.{translation}
use Rattle.meaning.specs.Counts.{command_writes, plan_writes}
use Rattle.meaning.specs.Limits.{lanes_apart, LoopsPass, LoopsWithin, PlanWithin, TouchesBelow}
use Rattle.meaning.specs.Demand3.{datum_at, plan_value, Outcome, Demand3}
use Rattle.meaning.proofs.Laws.Typing.{well_typed}
use Rattle.meaning.proofs.Laws.Inference.{infer, typed_inferred, inferred_typed}
use Rattle.meaning.proofs.Laws.Orders.{every_order}
use Rattle.meaning.proofs.Laws.Cells.{read_flattened}
use Rattle.meaning.proofs.Laws.Shapes.{plan_shaped}
use Rattle.meaning.proofs.Laws.Inputs.{same_value}
use Rattle.meaning.proofs.Laws.Outcomes.{plan_outcome}
use Rattle.meaning.proofs.Laws.Runs.{run_choice, choice_run}
use Rattle.meaning.proofs.Laws.Arbiters.{arbiter_of, arbiter_fair, run_by_arbiter, run_by_name}
use Rattle.meaning.proofs.Laws.Steps.{run_does_steps, run_writes, run_length}
use Rattle.meaning.proofs.Laws.Safety.{loops_touch_below, beyond_kept_holds}
use Rattle.meaning.proofs.Laws.Needs.{need_by_writes, need_reached}
use Rattle.meaning.proofs.Laws.LanesAsPar.{need_as_par, runs_as_par}
use Rattle.meaning.specs.AsPar.{loops_as_par}
use Rattle.meaning.proofs.Laws.PassingPlans.{translation_within}

-- [5.1] The relation of Figure 3 and the type check find the same types.
pub type_check : (I Γ : List DataType) (e : Term) (t : DataType) → HasType I Γ e t ↔ (infer I Γ e ≡ some t)
type_check I Γ e t = (typed_inferred I Γ e t, inferred_typed I Γ e t)

module _ (𝓝 : NumberDomain) where
  -- [3.4] The value that is read from cells, laid into cells, is those cells again.
  pub value_of_cells : (t : DataType) (s : Store 𝓝) (b : ℕ)
      → b + cells t ≤ length s → flatten (datum_at 𝓝 t s b) ≡ take (cells t) (drop b s)
  value_of_cells t s b l = read_flattened 𝓝 t s b l

  -- [8.1] The value of a plan that has a type has that type's shape.
  pub value_shaped : (P : Plan) (t : DataType) → HasType P.inputs [] P.term t
      → (s : Store 𝓝) → Shaped t (plan_value 𝓝 P s)
  value_shaped P t typed s =
      subst (λ (x : DataType). Shaped x (plan_value 𝓝 P s)) (well_typed typed).1 (plan_shaped 𝓝 P (well_typed typed).0 s)

  -- [8.1] A plan's value depends on the plan and on what the input cells hold, and on nothing else.
  pub value_of_inputs : (P : Plan) (s s' : Store 𝓝)
      → take (all_cells (map cells P.inputs)) s ≡ take (all_cells (map cells P.inputs)) s'
      → plan_value 𝓝 P s ≡ plan_value 𝓝 P s'
  value_of_inputs P s s' e = same_value 𝓝 s s' P e

  -- Each run of loops is a choice of orders, and each choice a run.
  pub run_is_choice : (L : Loops) (s : Store 𝓝) (st : State 𝓝)
      → RunOf 𝓝 L s st ↔ ((ch : Orders L.command) × (run_loops 𝓝 L ch s ≡ st))
  unfolding RunOf run_loops
  run_is_choice L s st = (
    λ r. run_choice 𝓝 L.command (start_of L) (regions_from L) (beginning 𝓝 s) st r,
    λ c.
        subst (λ (x : State 𝓝). Run 𝓝 L.command (start_of L) (regions_from L) (beginning 𝓝 s) x)
        c.1
        (choice_run 𝓝 L.command c.0 (start_of L) (regions_from L) (beginning 𝓝 s)),
  )

  -- [9.5] No order is left out: whatever permutation is named at every visit of every `par` and every `lanes`, some run takes it.
  pub no_order_left_out : (π : Arbiter)
      → ((visit : List ℕ) (n : ℕ) → Permᴰ (π visit n) (up_from 0 n))
      → (L : Loops) (s : Store 𝓝)
      → RunOf 𝓝 L s (run_by 𝓝 π L.command [] (start_of L) (regions_from L) (beginning 𝓝 s))
  unfolding RunOf
  no_order_left_out π fair L s =
      let x = every_order 𝓝 π fair L.command [] in
      subst (λ (st : State 𝓝). Run 𝓝 L.command (start_of L) (regions_from L) (beginning 𝓝 s) st)
      (x.1 (start_of L) (regions_from L) (beginning 𝓝 s))
      (choice_run 𝓝 L.command x.0 (start_of L) (regions_from L) (beginning 𝓝 s))

  -- [9.5] And there is no other run: each takes at every visit of every `par` and every `lanes` a permutation of its rounds.
  pub no_other_run : (L : Loops) (s : Store 𝓝) (st : State 𝓝) → RunOf 𝓝 L s st
      → (π : Arbiter)
      × ((visit : List ℕ) (n : ℕ) → Permᴰ (π visit n) (up_from 0 n))
      × (st ≡ run_by 𝓝 π L.command [] (start_of L) (regions_from L) (beginning 𝓝 s))
  unfolding run_loops
  no_other_run L s st r =
      let c = (run_is_choice L s st).0 r in (
        arbiter_of L.command c.0,
        arbiter_fair L.command c.0,
        sym c.1 ∙ run_by_arbiter 𝓝 L.command c.0 (start_of L) (regions_from L) (beginning 𝓝 s),
      )

  -- [9.10] The run in which every `par` and every `lanes` takes the order named is the run by the arbiter that names it at every visit.
  pub named_run : (o : (n : ℕ) → Order LoopKind.parallel n) (L : Loops) (s : Store 𝓝)
      → run_loops 𝓝 L (always o L.command) s
      ≡ run_by 𝓝 (λ visit n. (o n).0) L.command [] (start_of L) (regions_from L) (beginning 𝓝 s)
  unfolding run_loops
  named_run o L s = run_by_name 𝓝 o L.command [] (start_of L) (regions_from L) (beginning 𝓝 s)

  -- [18.10] Whatever order is named at each visit, a `lanes` takes it as a `par` does: with `par` for every `lanes` the run comes to the same.
  pub run_counts_as_par : (π : Arbiter) (L : Loops) (s : Store 𝓝)
      → run_by 𝓝 π (loops_as_par L).command [] (start_of L) (regions_from L) (beginning 𝓝 s)
      ≡ run_by 𝓝 π L.command [] (start_of L) (regions_from L) (beginning 𝓝 s)
  run_counts_as_par π L s = runs_as_par 𝓝 π L s

  -- A run does its steps, which are known before the store is seen.
  pub run_is_steps : (L : Loops) (ch : Orders L.command) (s : Store 𝓝)
      → run_loops 𝓝 L ch s ≡ in_turn (steps L.command ch (start_of L) (regions_from L)) (do_step 𝓝) (beginning 𝓝 s)
  unfolding run_loops
  run_is_steps L ch s = run_does_steps 𝓝 L.command ch (start_of L) (regions_from L) (beginning 𝓝 s)

  -- [9.8] Demand 3, for every choice of orders and so for every run.
  pub demand_3_choice : (P : Plan) (t : DataType) → HasType P.inputs [] P.term t
      → (s : Store 𝓝) → need (translation P) ≤ length s
      → (ch : Orders (translation P).command) → Outcome 𝓝 P s (run_loops 𝓝 (translation P) ch s)
  demand_3_choice P t typed s enough ch = plan_outcome 𝓝 P (well_typed typed).0 s enough ch

  pub demand_3 : Demand3 𝓝
  demand_3 P t typed s enough = (
    (
      run_loops 𝓝 (translation P) (always forward (translation P).command) s,
      (run_is_choice (translation P) s _).1 (always forward (translation P).command, refl),
    ),
    λ st r.
        let c = (run_is_choice (translation P) s st).0 r in
        subst (λ (x : State 𝓝). Outcome 𝓝 P s x) c.1 (demand_3_choice P t typed s enough c.0),
  )

  -- [9.7] [7.1] The writes of any run of any loops are those counted from the rows.
  pub writes_of_run : (L : Loops) (s : Store 𝓝) (st : State 𝓝)
      → RunOf 𝓝 L s st → st.writes ≡ command_writes L.command
  unfolding run_loops
  writes_of_run L s st r =
      let c = (run_is_choice L s st).0 r in
      subst (λ (x : State 𝓝). x.writes ≡ command_writes L.command) c.1
      (run_writes 𝓝 L.command c.0 (start_of L) (regions_from L) (beginning 𝓝 s)
      ∙ zero-add (command_writes L.command))

  -- [9.9] Loops that pass leave every cell past the need as it was, whoever wrote them, in every run; and the store its length.
  pub beyond_need : (L : Loops) → LoopsPass L → (s : Store 𝓝) (st : State 𝓝) → RunOf 𝓝 L s st
      → (length st.store ≡ length s) × ((x : ℕ) → need L ≤ x → cell 𝓝 st.store x ≡ cell 𝓝 s x)
  unfolding run_loops
  beyond_need L h s st r =
      let c = (run_is_choice L s st).0 r in
      subst
      (λ (x : State 𝓝).
      (length x.store ≡ length s) × ((y : ℕ) → need L ≤ y → cell 𝓝 x.store y ≡ cell 𝓝 s y))
      c.1 (
        run_length 𝓝 L.command c.0 (start_of L) (regions_from L) (beginning 𝓝 s),
        beyond_kept_holds 𝓝 (need L) L.command c.0 (start_of L) (regions_from L) (loops_touch_below L h)
            (beginning 𝓝 s),
      )

-- [9.8] Demand 3 on the numbers of cells [4.1].
pub demand_3_on_cells : Demand3 clamped32
demand_3_on_cells = demand_3 clamped32

-- [9.9] Loops that pass touch, reading or writing, only cells below the need, whoever wrote them.
pub safe_loops : (L : Loops) → LoopsPass L → TouchesBelow (need L) L.command (start_of L) (regions_from L)
safe_loops L h = loops_touch_below L h

-- [7.4] Loops that pass and make at most 16,777,216 writes [13.15] need fewer than 2^45 cells.
pub need_few : (L : Loops) → LoopsPass L → command_writes L.command ≤ 16777216 → need L < 35184372088832
need_few L h few = omega (arith, need_by_writes L h)

-- [7.4] The need is not a cell too great: where there are regions, one of them ends right before it.
pub need_taken : (L : Loops) → LoopsPass L → (need L ≡ regions_from L) ⊎ EndsBefore (need L) L.command (regions_from L)
need_taken L h = need_reached L h

-- [18.10] For the need too a `lanes` counts as a `par`.
pub need_counts_as_par : (L : Loops) → need (loops_as_par L) ≡ need L
need_counts_as_par L = need_as_par L

-- [9.9] Loops made from a plan answer to [10.5], [10.6] and [10.9].
pub own_loops_within : (P : Plan) (t : DataType) → HasType P.inputs [] P.term t → PlanWithin P → LoopsWithin (translation P)
own_loops_within P t typed within = translation_within P (well_typed typed).0 within

-- So they pass, where [18.15], which is asked of them for the plan, is answered too.
pub own_loops_pass : (P : Plan) (t : DataType) → HasType P.inputs [] P.term t → PlanWithin P
    → lanes_apart (translation P).command ≡ true → LoopsPass (translation P)
own_loops_pass P t typed within apart = record { within = own_loops_within P t typed within; apart = apart }

-- [7.3] Their writes, counted from the rows, are w.
pub own_writes : (P : Plan) (t : DataType) → HasType P.inputs [] P.term t
    → command_writes (translation P).command ≡ plan_writes P
own_writes P t typed =
    let n : ℕ = need (translation P) in
    let s : Store clamped32 = replicate n (no_number clamped32) in
    let long : n ≤ length s =
    subst (λ (m : ℕ). n ≤ m) (sym (length-replicate n (no_number clamped32))) (le_refl n) in
    let D = demand_3 clamped32 P t typed s long in
    sym (writes_of_run clamped32 (translation P) s D.0.0 D.0.1) ∙ (D.1 D.0.0 D.0.1).writes_counted
