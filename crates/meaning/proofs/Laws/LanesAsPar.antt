-- [18.10] For the need, and for the order that is named at each visit, a `lanes` counts as a `par`: put `par` for every `lanes`, and both stay as
-- they are. Assumes nothing.
use Rattle.std.specs.Prelude.{◌≡◌, List, [], ◌∷◌, ℕ, ◌+◌, ◌*◌}
use Rattle.std.proofs.Math.Path.{refl, ap, ap₂}
use Rattle.meaning.specs.Terms.{LoopKind}
use Rattle.meaning.specs.Numbers.{NumberDomain}
use Rattle.meaning.specs.Sequence.{up_from, in_turn}
use Rattle.meaning.specs.Loops.{Command, Loops, seq, loop, new}
use Rattle.meaning.specs.Layout.{room, first_room, second_room, round_room, region_room, body_room, regions_from, need}
use Rattle.meaning.specs.Runs.{Environment, with_counter, with_region, start_of, Store, State, beginning}
use Rattle.meaning.specs.Arbiters.{Arbiter, run_by}
use Rattle.meaning.specs.AsPar.{as_par, loops_as_par}

-- The need

pub room_as_par : (c : Command) → room (as_par c) ≡ room c
unfolding as_par room
room_as_par (Command.assignment p v) = refl
room_as_par (seq c d) = rw (room_as_par c, room_as_par d)
room_as_par (loop LoopKind.parallel n b) = ap (λ (x : ℕ). n * x) (room_as_par b)
room_as_par (loop LoopKind.sequential n b) = room_as_par b
room_as_par (loop LoopKind.lanes n b) = ap (λ (x : ℕ). n * x) (room_as_par b)
room_as_par (new c b) = ap (λ (x : ℕ). c + x) (room_as_par b)

pub need_as_par : (L : Loops) → need (loops_as_par L) ≡ need L
unfolding need
need_as_par L = ap (λ (x : ℕ). regions_from L + x) (room_as_par L.command)

-- The order that is named

module _ (𝓝 : NumberDomain) (π : Arbiter) where
  abbrev RunsTo : Type 0
  RunsTo = List ℕ → Environment → ℕ → State 𝓝 → State 𝓝

  abbrev named_rounds : ℕ → RunsTo → ℕ → RunsTo
  named_rounds n F k visit ρ a st = in_turn (π visit n) (λ i. F (i ∷ visit) (with_counter i ρ) (a + i * k)) st

  abbrev rising_rounds : ℕ → RunsTo → RunsTo
  rising_rounds n F visit ρ a st = in_turn (up_from 0 n) (λ i. F (i ∷ visit) (with_counter i ρ) a) st

  abbrev first_then_second : RunsTo → RunsTo → RunsTo
  first_then_second F G visit ρ a st = G (1 ∷ visit) ρ a (F (0 ∷ visit) ρ a st)

  abbrev in_region : ℕ → RunsTo → RunsTo
  in_region c F visit ρ a st = F visit (with_region a ρ) (a + c) st

  run_as_par : (c : Command) → ◌≡◌ {A = RunsTo} (run_by 𝓝 π (as_par c)) (run_by 𝓝 π c)
  unfolding as_par run_by first_room second_room round_room region_room body_room
  run_as_par (Command.assignment p v) = refl
  run_as_par (seq c d) = ap₂ first_then_second (run_as_par c) (run_as_par d)
  run_as_par (loop LoopKind.parallel n b) = ap₂ (named_rounds n) (run_as_par b) (room_as_par b)
  run_as_par (loop LoopKind.sequential n b) = ap (rising_rounds n) (run_as_par b)
  run_as_par (loop LoopKind.lanes n b) = ap₂ (named_rounds n) (run_as_par b) (room_as_par b)
  run_as_par (new c b) = ap (in_region c) (run_as_par b)

  pub runs_as_par : (L : Loops) (s : Store 𝓝)
      → run_by 𝓝 π (as_par L.command) [] (start_of L) (regions_from L) (beginning 𝓝 s)
      ≡ run_by 𝓝 π L.command [] (start_of L) (regions_from L) (beginning 𝓝 s)
  runs_as_par L s = ap (λ (F : RunsTo). F [] (start_of L) (regions_from L) (beginning 𝓝 s)) (run_as_par L.command)
