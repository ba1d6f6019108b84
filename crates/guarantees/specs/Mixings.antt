-- Cores that are halfway through a round, [9.12] and [9.13]: what holds of the mixings of any loops, whoever wrote them. What is promised of
-- those of a plan, [9.14], is in Demand3.
--
-- It rests on
--   mixing     MixingOf: the mixings of the steps of loops; after_mixing: what the steps of one come to; work_of, Done: what cores can do;
--              WithoutRaces: what one round of a `par` or `lanes` [18.10] writes, no other round of the same visit reads or writes
--   Runs       IsRun: every run; run_in_order: the run in an order that is named
use Rattle.std.specs.Prelude.{◌≡◌, ◌↔◌, List, ℤ}
use Rattle.meaning.specs.Numbers.{clamped32}
use Rattle.meaning.specs.Loops.{Loops}
use Rattle.meaning.specs.Layout.{regions_from}
use Rattle.meaning.specs.Runs.{State, start_of}
use Rattle.meaning.specs.Steps.{SetStep}
use Rattle.mixing.specs.Mixing.{MixingOf, after_mixing}
use Rattle.mixing.specs.Cores.{work_of, Done}
use Rattle.mixing.specs.Races.{WithoutRaces}
use Rattle.guarantees.specs.Runs.{IsRun, run_in_order}

pub record Mixings : Type 0 where
  -- No mixing is left out: they are what cores can do, one step at a time, whichever core does the next.
  pub cores : (L : Loops) (l : List SetStep) → MixingOf L l ↔ Done (work_of L) l
  -- There is a mixing for every order: every run, whatever orders it takes, does the steps of one.
  pub run_mixed : (L : Loops) (s : List ℤ) (st : State clamped32) → IsRun L s st
      → (l : List SetStep) × MixingOf L l × (after_mixing clamped32 l s ≡ st)
  -- Of loops without races every mixing comes to the run in order 0, the whole store and the writes.
  pub without_races_holds : (L : Loops) → WithoutRaces L.command (start_of L) (regions_from L) → (l : List SetStep) → MixingOf L l
      → (s : List ℤ) → after_mixing clamped32 l s ≡ run_in_order 0 L s
