-- The run in which an arbiter names the order at every visit of every `par` [9.5] and every `lanes` [18.10]. It is there for the law that no
-- order is left out. Definitions only; assumes nothing.
use Rattle.std.specs.Prelude.{List, ◌∷◌, ℕ}
use Rattle.meaning.specs.Terms.{LoopKind}
use Rattle.meaning.specs.Numbers.{NumberDomain}
use Rattle.meaning.specs.Sequence.{up_from, in_turn}
use Rattle.meaning.specs.Loops.{Command, seq, loop, new}
use Rattle.meaning.specs.Layout.{first_room, second_room, round_room, region_room, body_room}
use Rattle.meaning.specs.Runs.{Environment, with_counter, with_region, State, after_set}

-- For every visit of every `par` or `lanes` of n rounds, a list of rounds. A visit is the way to the loop from the top, last
-- step first: 0 and 1 for the parts of a `seq`, the round of a loop.
abbrev pub Arbiter : Type 0
Arbiter = List ℕ → ℕ → List ℕ

module _ (𝓝 : NumberDomain) where
  -- the run in which every `par` and every `lanes` takes the rounds that the arbiter names at that visit
  unfoldable pub run_by : Arbiter → Command → List ℕ → Environment → ℕ → State 𝓝 → State 𝓝
  run_by π (Command.assignment p v) visit ρ a st = after_set 𝓝 p v ρ st
  run_by π (seq c d) visit ρ a st =
      run_by π d (1 ∷ visit) ρ (second_room a c d) (run_by π c (0 ∷ visit) ρ (first_room a c d) st)
  run_by π (loop LoopKind.parallel n b) visit ρ a st =
      in_turn (π visit n) (λ i. run_by π b (i ∷ visit) (with_counter i ρ) (round_room a LoopKind.parallel n b i)) st
  run_by π (loop LoopKind.sequential n b) visit ρ a st =
      in_turn (up_from 0 n) (λ i. run_by π b (i ∷ visit) (with_counter i ρ) (round_room a LoopKind.sequential n b i)) st
  run_by π (loop LoopKind.lanes n b) visit ρ a st =
      in_turn (π visit n) (λ i. run_by π b (i ∷ visit) (with_counter i ρ) (round_room a LoopKind.lanes n b i)) st
  run_by π (new c b) visit ρ a st = run_by π b visit (with_region (region_room a c b) ρ) (body_room a c b) st
