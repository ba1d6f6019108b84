-- Cores that are halfway through a round: [9.12] to [9.14]. The mixings of the steps of loops, and what is promised of them. Definitions
-- only; assumes nothing.
--
-- [9.12] A step is one `set`, its readings and its write together: `SetStep` of `meaning`, which is a `set` with the counters and regions
-- in force. `do_step` does it.
use Rattle.std.specs.Prelude.{◌≡◌, ◌⊎◌, List, [], ◌∷◌, ◌++◌, ℕ, ◌≤◌, length}
use Rattle.meaning.specs.Types.{DataType}
use Rattle.meaning.specs.Terms.{LoopKind, Plan}
use Rattle.meaning.specs.Typing.{HasType}
use Rattle.meaning.specs.Numbers.{NumberDomain}
use Rattle.meaning.specs.Sequence.{up_from, in_turn}
use Rattle.meaning.specs.Loops.{Command, Loops, seq, loop, new}
use Rattle.meaning.specs.Layout.{first_room, second_room, round_room, region_room, body_room, regions_from, need}
use Rattle.meaning.specs.Runs.{Environment, with_counter, with_region, start_of, Store, State, beginning, run_loops}
use Rattle.meaning.specs.NamedOrders.{forward, always}
use Rattle.meaning.specs.Steps.{SetStep, do_step}
use Rattle.meaning.specs.Translation.{translation}

-- Rounds that are mixed. Of each round there is the list of its steps that are left to do.

-- One of the rounds has s for its next step, and does it: `after` is what is left then. The other rounds are where they were.
abbrev pub Takes : SetStep → List (List SetStep) → List (List SetStep) → Type 0
Takes s [] after = ⊥
Takes s (x ∷ xs) [] = ⊥
Takes s (x ∷ xs) (y ∷ ys) = ((x ≡ s ∷ y) × (xs ≡ ys)) ⊎ ((x ≡ y) × Takes s xs ys)

-- of no round is a step left
abbrev pub AllEnded : List (List SetStep) → Type 0
AllEnded [] = Unit {0}
AllEnded (x ∷ xs) = (x ≡ []) × AllEnded xs

-- [9.12] l is a mixing of these rounds: the next step of one of them, whichever it is, time after time, until all have ended.
abbrev pub Mixed : List (List SetStep) → List SetStep → Type 0
Mixed xs [] = AllEnded xs
Mixed xs (s ∷ l) = (ys : List (List SetStep)) × Takes s xs ys × Mixed ys l

-- these rounds one after the other
abbrev pub joined : List (List SetStep) → List SetStep
joined [] = []
joined (x ∷ xs) = x ++ joined xs

-- The rounds of one visit of a loop: [9.12] of a `par` they are mixed, [18.10] of a `lanes` too, [9.13] of a `for` they come one after the
-- other.
abbrev pub Together : LoopKind → List (List SetStep) → List SetStep → Type 0
Together LoopKind.parallel xs l = Mixed xs l
Together LoopKind.sequential xs l = l ≡ joined xs
Together LoopKind.lanes xs l = Mixed xs l

-- one list of steps for each of the rounds named, round i's one of those that `Round i` allows
abbrev pub OneEach : List ℕ → (ℕ → List SetStep → Type 0) → List (List SetStep) → Type 0
OneEach [] Round [] = Unit {0}
OneEach [] Round (x ∷ xs) = ⊥
OneEach (i ∷ is) Round [] = ⊥
OneEach (i ∷ is) Round (x ∷ xs) = Round i x × OneEach is Round xs

-- l is a mixing of the command's steps; the command's room begins at `a`. [9.13] The second command of a `seq` waits until all steps of
-- the first are done, those of every round of a `par` in it. [9.12] Each round of a loop has a mixing of its own; those of a `par` are mixed
-- again, so that the inner rounds of different outer rounds mix too.
unfoldable pub Mixing : Command → Environment → ℕ → List SetStep → Type 0
Mixing (Command.assignment p v) ρ a l = l ≡ record { place = p; value = v; environment = ρ } ∷ []
Mixing (seq c d) ρ a l =
    (x : List SetStep)
    × (y : List SetStep)
    × Mixing c ρ (first_room a c d) x
    × Mixing d ρ (second_room a c d) y
    × (l ≡ x ++ y)
Mixing (loop kind n b) ρ a l =
    (xs : List (List SetStep))
    × OneEach (up_from 0 n) (λ i x. Mixing b (with_counter i ρ) (round_room a kind n b i) x) xs
    × Together kind xs l
Mixing (new c b) ρ a l = Mixing b (with_region (region_room a c b) ρ) (body_room a c b) l

-- Of whole loops.
unfoldable pub MixingOf : Loops → List SetStep → Type 0
MixingOf L l = Mixing L.command (start_of L) (regions_from L) l

-- What is promised

module _ (𝓝 : NumberDomain) where
  -- The steps of l done one after the other, from the store s on.
  abbrev pub after_mixing : List SetStep → Store 𝓝 → State 𝓝
  after_mixing l s = in_turn l (do_step 𝓝) (beginning 𝓝 s)

  -- [9.10] The run in which every `par` takes order 0.
  abbrev pub forward_run : Loops → Store 𝓝 → State 𝓝
  forward_run L s = run_loops 𝓝 L (always forward L.command) s

  -- [9.14] For every plan that has a type and every store at least as long as the need: every mixing of the steps of the plan's loops leaves
  -- the whole store, regions included, as the forward run does, and has made as many writes.
  abbrev pub EveryMixing : Type 0
  EveryMixing =
      (P : Plan) (t : DataType)
      → HasType P.inputs [] P.term t
      → (s : Store 𝓝)
      → need (translation P) ≤ length s
      → (l : List SetStep)
      → MixingOf (translation P) l
      → ((after_mixing l s).store ≡ (forward_run (translation P) s).store)
      × ((after_mixing l s).writes ≡ (forward_run (translation P) s).writes)
