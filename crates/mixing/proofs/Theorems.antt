-- What is proved, in one place: [9.12] to [9.14], and what goes with them. The proofs are in `Laws`.
use Rattle.std.specs.Prelude.{◌≡◌, ◌↔◌, List, [], ◌≤◌, length}
use Rattle.std.proofs.Math.Path.{sym}
use Rattle.std.proofs.Common.{ap, ◌∙◌, subst}
use Rattle.meaning.specs.Types.{DataType}
use Rattle.meaning.specs.Terms.{Plan}
use Rattle.meaning.specs.Typing.{HasType}
use Rattle.meaning.specs.Numbers.{NumberDomain}
use Rattle.meaning.specs.Loops.{Loops}
use Rattle.meaning.specs.Layout.{regions_from, need}
use Rattle.meaning.specs.Runs.{start_of, Store, State, beginning, run_loops, RunOf}
use Rattle.meaning.specs.NamedOrders.{forward, always}
use Rattle.meaning.specs.Steps.{SetStep, steps}
use Rattle.meaning.specs.Translation.{translation}
use Rattle.meaning.specs.Demand3.{Outcome}
use Rattle.meaning.proofs.Laws.Typing.{well_typed}
use Rattle.meaning.specs.AsPar.{loops_as_par}
use Rattle.meaning.proofs.Theorems.{run_is_choice, run_is_steps, demand_3_choice}
use Rattle.mixing.specs.Mixing.{MixingOf, after_mixing, forward_run, EveryMixing}
use Rattle.mixing.specs.Cores.{work_of, Done}
use Rattle.mixing.specs.Races.{WithoutRaces}
use Rattle.mixing.proofs.Laws.Mixings.{mixing_is_forward}
use Rattle.mixing.proofs.Laws.OrdersMix.{steps_mixing}
use Rattle.mixing.proofs.Laws.CoresMix.{mixing_done, done_mixing}
use Rattle.mixing.proofs.Laws.LanesAsPar.{mixings_as_par}
use Rattle.mixing.proofs.Laws.OrderlyTerms.{plan_without_races}

-- [9.12] [9.13] No mixing is left out: whichever next step some core does at each moment, until none is left, the steps are a mixing; and
-- the cores can do every mixing.
pub mixing_is_cores : (L : Loops) (l : List SetStep) → MixingOf L l ↔ Done (work_of L) l
unfolding MixingOf work_of
mixing_is_cores L l = (
  mixing_done L.command (start_of L) (regions_from L) l,
  done_mixing L.command (start_of L) (regions_from L) l,
)

-- [18.10] For the mixings too a `lanes` counts as a `par`: with `par` for every `lanes` they are the same.
pub mixings_count_as_par : (L : Loops) (l : List SetStep) → MixingOf (loops_as_par L) l ↔ MixingOf L l
mixings_count_as_par L l = let e = mixings_as_par L l in (subst (λ (M : Type 0). M) e, subst (λ (M : Type 0). M) (sym e))

-- Loops made from a plan have no races.
pub own_loops_without_races : (P : Plan) (t : DataType) → HasType P.inputs [] P.term t
    → WithoutRaces (translation P).command (start_of (translation P)) (regions_from (translation P))
own_loops_without_races P t typed = plan_without_races P (well_typed typed).0

module _ (𝓝 : NumberDomain) where
  -- Every mixing of the steps of loops without races, whoever wrote them, comes to the forward run's state: the whole store, and the writes.
  pub mixing_without_races : (L : Loops) → WithoutRaces L.command (start_of L) (regions_from L)
      → (s : Store 𝓝) (l : List SetStep) → MixingOf L l → after_mixing 𝓝 l s ≡ forward_run 𝓝 L s
  unfolding MixingOf run_loops
  mixing_without_races L h s l m =
      mixing_is_forward 𝓝 L.command (start_of L) (regions_from L) h l m (beginning 𝓝 s)

  plan_mixing : (P : Plan) (t : DataType) → HasType P.inputs [] P.term t
      → (s : Store 𝓝) (l : List SetStep) → MixingOf (translation P) l
      → after_mixing 𝓝 l s ≡ forward_run 𝓝 (translation P) s
  plan_mixing P t typed s l m = mixing_without_races (translation P) (own_loops_without_races P t typed) s l m

  -- [9.14]
  pub every_mixing : EveryMixing 𝓝
  every_mixing P t typed s enough l m =
      let e : after_mixing 𝓝 l s ≡ forward_run 𝓝 (translation P) s = plan_mixing P t typed s l m in
      (ap (λ (x : State 𝓝). x.store) e, ap (λ (x : State 𝓝). x.writes) e)

  -- [9.14] So every mixing comes to demand 3's outcome, which is [9.8].
  pub demand_3_mixing : (P : Plan) (t : DataType) → HasType P.inputs [] P.term t
      → (s : Store 𝓝) → need (translation P) ≤ length s
      → (l : List SetStep) → MixingOf (translation P) l → Outcome 𝓝 P s (after_mixing 𝓝 l s)
  demand_3_mixing P t typed s enough l m =
      subst (λ (x : State 𝓝). Outcome 𝓝 P s x) (sym (plan_mixing P t typed s l m))
      (demand_3_choice 𝓝 P t typed s enough (always forward (translation P).command))

  -- Mixings allow all that orders do: every run of any loops, whatever orders it takes, does the steps of a mixing.
  pub run_is_mixing : (L : Loops) (s : Store 𝓝) (st : State 𝓝) → RunOf 𝓝 L s st
      → (l : List SetStep) × MixingOf L l × (after_mixing 𝓝 l s ≡ st)
  unfolding MixingOf
  run_is_mixing L s st r =
      let c = (run_is_choice 𝓝 L s st).0 r in (
        steps L.command c.0 (start_of L) (regions_from L),
        steps_mixing L.command c.0 (start_of L) (regions_from L),
        sym (run_is_steps 𝓝 L c.0 s) ∙ c.1,
      )

  -- So every run of a plan's loops, whatever orders it takes, leaves the whole store, regions included, as the forward run does.
  pub every_run_is_forward : (P : Plan) (t : DataType) → HasType P.inputs [] P.term t
      → (s : Store 𝓝) (st : State 𝓝) → RunOf 𝓝 (translation P) s st → st ≡ forward_run 𝓝 (translation P) s
  every_run_is_forward P t typed s st r =
      let m = run_is_mixing (translation P) s st r in sym m.2 ∙ plan_mixing P t typed s m.0 m.1

  -- [9.14] So every mixing of a plan's loops comes to what every run comes to.
  pub mixing_as_run : (P : Plan) (t : DataType) → HasType P.inputs [] P.term t
      → (s : Store 𝓝) (l : List SetStep) → MixingOf (translation P) l
      → (st : State 𝓝) → RunOf 𝓝 (translation P) s st → after_mixing 𝓝 l s ≡ st
  mixing_as_run P t typed s l m st r = plan_mixing P t typed s l m ∙ sym (every_run_is_forward P t typed s st r)
