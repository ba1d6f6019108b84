-- [18.10] For the mixings a `lanes` counts as a `par`: put `par` for every `lanes`, and they stay as they are.
use Rattle.std.specs.Prelude.{◌≡◌, refl, List, ◌++◌, ℕ, ◌+◌, ◌*◌}
use Rattle.std.proofs.Common.{ap, ap₂}
use Rattle.meaning.specs.Terms.{LoopKind}
use Rattle.meaning.specs.Sequence.{up_from}
use Rattle.meaning.specs.Loops.{Command, Loops, seq, loop, new}
use Rattle.meaning.specs.Layout.{first_room, second_room, round_room, region_room, body_room, regions_from}
use Rattle.meaning.specs.Runs.{Environment, with_counter, with_region, start_of}
use Rattle.meaning.specs.Steps.{SetStep}
use Rattle.meaning.specs.AsPar.{as_par, loops_as_par}
use Rattle.meaning.proofs.Laws.LanesAsPar.{room_as_par}
use Rattle.mixing.specs.Mixing.{Mixed, joined, OneEach, Mixing, MixingOf}

abbrev Mixings : Type 1
Mixings = Environment → ℕ → List SetStep → Type 0

-- the rounds of a `par`, their rooms k cells each
abbrev mixed_rounds : ℕ → Mixings → ℕ → Mixings
mixed_rounds n M k ρ a l =
    (xs : List (List SetStep)) × OneEach (up_from 0 n) (λ i x. M (with_counter i ρ) (a + i * k) x) xs × Mixed xs l

abbrev rounds_in_turn : ℕ → Mixings → Mixings
rounds_in_turn n M ρ a l =
    (xs : List (List SetStep)) × OneEach (up_from 0 n) (λ i x. M (with_counter i ρ) a x) xs × (l ≡ joined xs)

abbrev both_in_turn : Mixings → Mixings → Mixings
both_in_turn M N ρ a l = (x : List SetStep) × (y : List SetStep) × M ρ a x × N ρ a y × (l ≡ x ++ y)

abbrev under_region : ℕ → Mixings → Mixings
under_region c M ρ a l = M (with_region a ρ) (a + c) l

mixing_as_par : (c : Command) → ◌≡◌ {A = Mixings} (Mixing (as_par c)) (Mixing c)
unfolding as_par Mixing first_room second_room round_room region_room body_room
mixing_as_par (Command.assignment p v) = refl
mixing_as_par (seq c d) = ap₂ both_in_turn (mixing_as_par c) (mixing_as_par d)
mixing_as_par (loop LoopKind.parallel n b) = ap₂ (mixed_rounds n) (mixing_as_par b) (room_as_par b)
mixing_as_par (loop LoopKind.sequential n b) = ap (rounds_in_turn n) (mixing_as_par b)
mixing_as_par (loop LoopKind.lanes n b) = ap₂ (mixed_rounds n) (mixing_as_par b) (room_as_par b)
mixing_as_par (new c b) = ap (under_region c) (mixing_as_par b)

pub mixings_as_par : (L : Loops) (l : List SetStep) → MixingOf (loops_as_par L) l ≡ MixingOf L l
unfolding MixingOf
mixings_as_par L l =
    ap (λ (M : Mixings). M (start_of L) (regions_from L) l) (mixing_as_par L.command)
