-- The mixings once more, as the cores come to them: some work is left, and some core does a next step of it, time after time. `Theorems`
-- has that these are the mixings of `Mixing`, so that none is left out there. Definitions only; assumes nothing.
use Rattle.std.specs.Prelude.{◌≡◌, ◌⊎◌, List, [], ◌∷◌, map, ℕ}
use Rattle.meaning.specs.Terms.{LoopKind}
use Rattle.meaning.specs.Sequence.{up_from}
use Rattle.meaning.specs.Loops.{Command, Loops, seq, loop, new}
use Rattle.meaning.specs.Layout.{first_room, second_room, round_room, region_room, body_room, regions_from}
use Rattle.meaning.specs.Runs.{Environment, with_counter, with_region, start_of}
use Rattle.meaning.specs.Steps.{SetStep}

-- What is left to do: nothing, one step, one piece of work and then another, or two side by side.
pub data Work : Type 0 where
  nothing : Work
  one : SetStep → Work
  then : Work → Work → Work
  beside : Work → Work → Work

-- all of these side by side; and one after the other
abbrev pub besides : List Work → Work
besides [] = Work.nothing
besides (w ∷ ws) = Work.beside w (besides ws)

abbrev pub in_sequence : List Work → Work
in_sequence [] = Work.nothing
in_sequence (w ∷ ws) = Work.then w (in_sequence ws)

-- The rounds of one visit of a loop, of each its work: [9.12] of a `par` they are side by side, [18.10] of a `lanes` too, [9.13] of a `for` they
-- come one after the other.
abbrev pub work_of_rounds : LoopKind → List Work → Work
work_of_rounds LoopKind.parallel ws = besides ws
work_of_rounds LoopKind.sequential ws = in_sequence ws
work_of_rounds LoopKind.lanes ws = besides ws

-- The work of a command, whose room begins at `a`.
unfoldable pub work : Command → Environment → ℕ → Work
work (Command.assignment p v) ρ a = Work.one (record { place = p; value = v; environment = ρ })
work (seq c d) ρ a = Work.then (work c ρ (first_room a c d)) (work d ρ (second_room a c d))
work (loop kind n b) ρ a =
    work_of_rounds kind (map (λ i. work b (with_counter i ρ) (round_room a kind n b i)) (up_from 0 n))
work (new c b) ρ a = work b (with_region (region_room a c b) ρ) (body_room a c b)

unfoldable pub work_of : Loops → Work
work_of L = work L.command (start_of L) (regions_from L)

-- no step is left
abbrev pub Ended : Work → Type 0
Ended Work.nothing = Unit {0}
Ended (Work.one s) = ⊥
Ended (Work.then v w) = Ended v × Ended w
Ended (Work.beside v w) = Ended v × Ended w

-- Some core does step s, and `left` is left to do. [9.13] Of one piece of work and then another, the second goes on only when the first has
-- ended. [9.12] Of two side by side either goes on.
abbrev pub Goes : Work → SetStep → Work → Type 0
Goes Work.nothing s left = ⊥
Goes (Work.one u) s left = (u ≡ s) × (left ≡ Work.nothing)
Goes (Work.then v w) s left =
    ((v' : Work) × Goes v s v' × (left ≡ Work.then v' w))
    ⊎ ((w' : Work) × Ended v × Goes w s w' × (left ≡ Work.then v w'))
Goes (Work.beside v w) s left =
    ((v' : Work) × Goes v s v' × (left ≡ Work.beside v' w))
    ⊎ ((w' : Work) × Goes w s w' × (left ≡ Work.beside v w'))

-- l are steps that the cores do, one at a time, until none is left.
abbrev pub Done : Work → List SetStep → Type 0
Done w [] = Ended w
Done w (s ∷ l) = (left : Work) × Goes w s left × Done left l
