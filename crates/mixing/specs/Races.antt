-- Loops without races: what one round of a `par` or a `lanes` writes, no other round of the same visit reads or writes. Definitions only;
-- assumes nothing.
use Rattle.std.specs.Prelude.{◌≢◌, ℕ, ◌<◌}
use Rattle.meaning.specs.Terms.{LoopKind}
use Rattle.meaning.specs.Loops.{Command, seq, loop, new}
use Rattle.meaning.specs.Layout.{first_room, second_room, round_room, region_room, body_room}
use Rattle.meaning.specs.Runs.{Environment, with_counter, with_region}
use Rattle.meaning.specs.Limits.{Touches}

-- the command neither writes nor reads cell x; and it does not write it
abbrev pub TouchesNot : ℕ → Command → Environment → ℕ → Type 0
TouchesNot x c ρ a = Touches (λ y. y ≢ x) (λ y. y ≢ x) c ρ a

abbrev pub WritesNot : ℕ → Command → Environment → ℕ → Type 0
WritesNot x c ρ a = Touches (λ y. y ≢ x) (λ y. Unit {0}) c ρ a

-- Of any two rounds of one visit of a loop: what the one writes the other does not touch, and what it reads the other does not write.
abbrev pub RoundsApart : LoopKind → ℕ → Command → Environment → ℕ → Type 0
RoundsApart kind n b ρ a =
    (i j : ℕ) → i < j → j < n
    → Touches (λ x. TouchesNot x b (with_counter j ρ) (round_room a kind n b j))
    (λ x. WritesNot x b (with_counter j ρ) (round_room a kind n b j))
    b (with_counter i ρ) (round_room a kind n b i)

-- So at every visit of every `par`, and [18.10] of every `lanes`, of the command, whose room begins at `a`.
unfoldable pub WithoutRaces : Command → Environment → ℕ → Type 0
WithoutRaces (Command.assignment p v) ρ a = Unit {0}
WithoutRaces (seq c d) ρ a = WithoutRaces c ρ (first_room a c d) × WithoutRaces d ρ (second_room a c d)
WithoutRaces (loop LoopKind.parallel n b) ρ a =
    ((i : ℕ) → i < n → WithoutRaces b (with_counter i ρ) (round_room a LoopKind.parallel n b i))
    × RoundsApart LoopKind.parallel n b ρ a
WithoutRaces (loop LoopKind.sequential n b) ρ a =
    (i : ℕ) → i < n → WithoutRaces b (with_counter i ρ) (round_room a LoopKind.sequential n b i)
WithoutRaces (loop LoopKind.lanes n b) ρ a =
    ((i : ℕ) → i < n → WithoutRaces b (with_counter i ρ) (round_room a LoopKind.lanes n b i))
    × RoundsApart LoopKind.lanes n b ρ a
WithoutRaces (new c b) ρ a = WithoutRaces b (with_region (region_room a c b) ρ) (body_room a c b)
