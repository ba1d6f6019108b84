-- Every mixing of loops without races comes to the forward run: steps that stand next to each other change places until the rounds of
-- each `par` stand one after the other.
use Rattle.std.specs.Prelude.{◌≡◌, refl, ◌≢◌, ℕ, zero, suc, ◌+◌, ◌≤◌, ◌<◌}
use Rattle.std.proofs.Common.{sym, ap₂, ◌∙◌, subst, ⊎_elim, arith}
use Rattle.std.proofs.Math.Path.{ap}
use mathlib.Core.List.{List, [], ◌∷◌, ◌++◌}
use Rattle.meaning.specs.Terms.{LoopKind}
use Rattle.meaning.specs.Numbers.{NumberDomain}
use Rattle.meaning.specs.Sequence.{up_from, in_turn}
use Rattle.meaning.specs.Loops.{Command, seq, loop, new}
use Rattle.meaning.specs.Layout.{first_room, second_room, round_room, region_room, body_room}
use Rattle.meaning.specs.Runs.{Environment, with_counter, with_region, State, run}
use Rattle.meaning.specs.NamedOrders.{forward, always}
use Rattle.meaning.specs.Steps.{SetStep, do_step}
use Rattle.meaning.specs.Limits.{Touches}
use Rattle.meaning.proofs.Laws.Steps.{in_turn_append}
use Rattle.meaning.proofs.Laws.Holds.{CellSet}
use Rattle.mixing.specs.Mixing.{Takes, AllEnded, Mixed, joined, Together, OneEach, Mixing}
use Rattle.mixing.specs.Races.{TouchesNot, WritesNot, RoundsApart, WithoutRaces}
use Rattle.mixing.proofs.Laws.Independence.{written_by, StepReads, step_reads_more, Independent, change_places}

-- each of a list of steps, and each of the steps of these rounds
abbrev Each : (SetStep → Type 0) → List SetStep → Type 0
Each φ [] = Unit {0}
Each φ (s ∷ l) = φ s × Each φ l

abbrev EachOf : (SetStep → Type 0) → List (List SetStep) → Type 0
EachOf φ [] = Unit {0}
EachOf φ (x ∷ xs) = Each φ x × EachOf φ xs

each_more : {φ ψ : SetStep → Type 0} → ((s : SetStep) → φ s → ψ s) → (l : List SetStep) → Each φ l → Each ψ l
each_more f [] h = tt
each_more f (s ∷ l) h = (f s h.0, each_more f l h.1)

each_both : (φ ψ : SetStep → Type 0) (l : List SetStep) → Each φ l → Each ψ l → Each (λ s. φ s × ψ s) l
each_both φ ψ [] h k = tt
each_both φ ψ (s ∷ l) h k = ((h.0, k.0), each_both φ ψ l h.1 k.1)

each_append : (φ : SetStep → Type 0) (x y : List SetStep) → Each φ x → Each φ y → Each φ (x ++ y)
each_append φ [] y h k = k
each_append φ (s ∷ x) y h k = (h.0, each_append φ x y h.1 k)

each_joined : (φ : SetStep → Type 0) (xs : List (List SetStep)) → EachOf φ xs → Each φ (joined xs)
each_joined φ [] h = tt
each_joined φ (x ∷ xs) h = each_append φ x (joined xs) h.0 (each_joined φ xs h.1)

-- What is taken is one of the steps, and what is left are steps of the rounds

taken : (φ : SetStep → Type 0) (s : SetStep) (xs ys : List (List SetStep)) → Takes s xs ys → EachOf φ xs → φ s
taken φ s [] ys t h = absurd t
taken φ s (x ∷ xs) [] t h = absurd t
taken φ s (x ∷ xs) (y ∷ ys) t h =
    ⊎_elim
    (λ e. let k : Each φ (s ∷ y) = subst (Each φ) e.0 h.0 in k.0)
    (λ e. taken φ s xs ys e.1 h.1)
    t

left : (φ : SetStep → Type 0) (s : SetStep) (xs ys : List (List SetStep)) → Takes s xs ys → EachOf φ xs → EachOf φ ys
left φ s [] ys t h = absurd t
left φ s (x ∷ xs) [] t h = absurd t
left φ s (x ∷ xs) (y ∷ ys) t h =
    ⊎_elim
    (λ e. let k : Each φ (s ∷ y) = subst (Each φ) e.0 h.0 in (k.1, subst (EachOf φ) e.1 h.1))
    (λ e. (subst (Each φ) e.0 h.0, left φ s xs ys e.1 h.1))
    t

each_mixed : (φ : SetStep → Type 0) (xs : List (List SetStep)) (l : List SetStep) → Mixed xs l → EachOf φ xs → Each φ l
each_mixed φ xs [] m h = tt
each_mixed φ xs (s ∷ l) m h =
    (taken φ s xs m.0 m.1 h, each_mixed φ m.0 l m.2 (left φ s xs m.0 m.1 h))

each_together : (φ : SetStep → Type 0) (kind : LoopKind) (xs : List (List SetStep)) (l : List SetStep)
    → Together kind xs l → EachOf φ xs → Each φ l
each_together φ LoopKind.parallel xs l m h = each_mixed φ xs l m h
each_together φ LoopKind.sequential xs l m h = subst (Each φ) (sym m) (each_joined φ xs h)
each_together φ LoopKind.lanes xs l m h = each_mixed φ xs l m h

-- No step of a round depends on a step of a later one

abbrev Unraced : List (List SetStep) → Type 0
Unraced [] = Unit {0}
Unraced (x ∷ xs) = Each (λ s. EachOf (λ u. Independent s u) xs) x × Unraced xs

left_unraced : (s : SetStep) (xs ys : List (List SetStep)) → Takes s xs ys → Unraced xs → Unraced ys
left_unraced s [] ys t h = absurd t
left_unraced s (x ∷ xs) [] t h = absurd t
left_unraced s (x ∷ xs) (y ∷ ys) t h =
    ⊎_elim
    (λ e.
    let k : Unraced ((s ∷ y) ∷ ys) =
    subst (λ (r : List (List SetStep)). Unraced r)
    (ap₂ (λ (a : List SetStep) (b : List (List SetStep)). a ∷ b) e.0 e.1) h in
    (k.0.1, k.1))
    (λ e. (
      subst (Each (λ a. EachOf (λ u. Independent a u) ys)) e.0
          (each_more (λ a q. left (λ u. Independent a u) s xs ys e.1 q) x h.0),
      left_unraced s xs ys e.1 h.1,
    ))
    t

module _ (𝓝 : NumberDomain) where
  abbrev does : List SetStep → State 𝓝 → State 𝓝
  does l st = in_turn l (do_step 𝓝) st

  -- a step goes before steps that it is independent of
  go_before : (s : SetStep) (x : List SetStep) → Each (λ a. Independent a s) x
      → (st : State 𝓝) → do_step 𝓝 s (does x st) ≡ does x (do_step 𝓝 s st)
  go_before s [] h st = refl
  go_before s (a ∷ x) h st =
      go_before s x h.1 (do_step 𝓝 a st) ∙ ap (does x) (change_places 𝓝 a s h.0 st)

  -- so the step that is taken can be done first
  take_first : (s : SetStep) (xs ys : List (List SetStep)) → Takes s xs ys → Unraced xs
      → (st : State 𝓝) → does (joined xs) st ≡ does (joined ys) (do_step 𝓝 s st)
  take_first s [] ys t h st = absurd t
  take_first s (x ∷ xs) [] t h st = absurd t
  take_first s (x ∷ xs) (y ∷ ys) t h st =
      ⊎_elim
      (λ e. ap₂ (λ (a : List SetStep) (b : List (List SetStep)). does (a ++ joined b) st) e.0 e.1)
      (λ e.
      in_turn_append x (joined xs) (do_step 𝓝) st
      ∙ take_first s xs ys e.1 h.1 (does x st)
      ∙ ap (does (joined ys)) (go_before s x (each_more (λ a q. taken (λ u. Independent a u) s xs ys e.1 q) x h.0) st)
      ∙ sym (in_turn_append x (joined ys) (do_step 𝓝) (do_step 𝓝 s st))
      ∙ ap (λ (a : List SetStep). does (a ++ joined ys) (do_step 𝓝 s st)) e.0)
      t

  ended_joined : (xs : List (List SetStep)) → AllEnded xs → joined xs ≡ []
  ended_joined [] h = refl
  ended_joined (x ∷ xs) h = ap (λ (a : List SetStep). a ++ joined xs) h.0 ∙ ended_joined xs h.1

  mixed_in_turn : (xs : List (List SetStep)) (l : List SetStep) → Mixed xs l → Unraced xs
      → (st : State 𝓝) → does l st ≡ does (joined xs) st
  mixed_in_turn xs [] m h st = sym (ap (λ (a : List SetStep). does a st) (ended_joined xs m))
  mixed_in_turn xs (s ∷ l) m h st =
      mixed_in_turn m.0 l m.2 (left_unraced s xs m.0 m.1 h) (do_step 𝓝 s st)
      ∙ sym (take_first s xs m.0 m.1 h st)

-- What a command touches, each step of its mixings touches

abbrev Within : CellSet → CellSet → SetStep → Type 0
Within Z R s = Z (written_by s) × StepReads R s

each_round : (φ : SetStep → Type 0) (n : ℕ) (Round : ℕ → List SetStep → Type 0)
    → ((i : ℕ) → i < n → (x : List SetStep) → Round i x → Each φ x)
    → (k i : ℕ) → i + k ≤ n → (xs : List (List SetStep)) → OneEach (up_from i k) Round xs → EachOf φ xs
each_round φ n Round h zero i l [] o = tt
each_round φ n Round h zero i l (x ∷ xs) o = absurd o
each_round φ n Round h (suc k) i l [] o = absurd o
each_round φ n Round h (suc k) i l (x ∷ xs) o =
    (h i (omega arith) x o.0, each_round φ n Round h k (suc i) (omega arith) xs o.1)

each_of_mixing : (Z R : CellSet) (c : Command) (ρ : Environment) (a : ℕ) → Touches Z R c ρ a
    → (l : List SetStep) → Mixing c ρ a l → Each (Within Z R) l
unfolding Touches Mixing
each_of_mixing Z R (Command.assignment p v) ρ a h l m = subst (Each (Within Z R)) (sym m) (h, tt)
each_of_mixing Z R (seq c d) ρ a h l m =
    let behind : l ≡ m.0 ++ m.1 = m.4 in
    subst (Each (Within Z R)) (sym behind)
    (each_append (Within Z R) m.0 m.1 (each_of_mixing Z R c ρ (first_room a c d) h.0 m.0 m.2)
    (each_of_mixing Z R d ρ (second_room a c d) h.1 m.1 m.3))
each_of_mixing Z R (loop kind n b) ρ a h l m =
    each_together (Within Z R) kind m.0 l m.2
    (each_round (Within Z R) n (λ i x. Mixing b (with_counter i ρ) (round_room a kind n b i) x)
    (λ i li x q. each_of_mixing Z R b (with_counter i ρ) (round_room a kind n b i) (h i li) x q)
    n 0 (omega arith) m.0 m.1)
each_of_mixing Z R (new c b) ρ a h l m =
    each_of_mixing Z R b (with_region (region_room a c b) ρ) (body_room a c b) h l m

-- The rounds of a loop that are apart

-- a step that reads nothing that these steps write
not_read_holds : (s : SetStep) (l : List SetStep) → StepReads (λ x. Each (λ u. written_by u ≢ x) l) s
    → Each (λ u. StepReads (λ x. x ≢ written_by u) s) l
not_read_holds s [] h = tt
not_read_holds s (u ∷ l) h =
    let all : CellSet = λ x. Each (λ v. written_by v ≢ x) (u ∷ l) in (
      step_reads_more {R = all} {R' = λ x. x ≢ written_by u} (λ x q e. q.0 (sym e)) s h,
      not_read_holds s l (step_reads_more {R = all} {R' = λ x. Each (λ v. written_by v ≢ x) l} (λ x q. q.1) s h),
    )

-- a step against those of a mixing of another command
independent_of : (s : SetStep) (b : Command) (ρ : Environment) (a : ℕ)
    → Within (λ x. TouchesNot x b ρ a) (λ x. WritesNot x b ρ a) s
    → (l : List SetStep) → Mixing b ρ a l → Each (λ u. Independent s u) l
independent_of s b ρ a h l m =
    each_more (λ u q. record { written = q.0.0; not_read = q.0.1; not_read_by = q.1 }) l
    (each_both (Within (λ y. y ≢ written_by s) (λ y. y ≢ written_by s)) (λ u. StepReads (λ x. x ≢ written_by u) s) l
    (each_of_mixing (λ y. y ≢ written_by s) (λ y. y ≢ written_by s) b ρ a h.0 l m)
    (not_read_holds s l
    (step_reads_more
    (λ x q. each_more (λ u r. r.0) l (each_of_mixing (λ y. y ≢ x) (λ y. Unit {0}) b ρ a q l m)) s h.1)))

module _ (kind : LoopKind) (n : ℕ) (b : Command) (ρ : Environment) (a : ℕ) (apart : RoundsApart kind n b ρ a) where
  abbrev Round : ℕ → List SetStep → Type 0
  Round j x = Mixing b (with_counter j ρ) (round_room a kind n b j) x

  -- a mixing of round i against those of later rounds, k from j on
  against_later : (i : ℕ) (x : List SetStep) → Round i x → (k j : ℕ) → i < j → j + k ≤ n
      → (ys : List (List SetStep)) → OneEach (up_from j k) Round ys → Each (λ s. EachOf (λ u. Independent s u) ys) x
  against_later i x m zero j l le [] o = each_of_none x
    where
      each_of_none : (x : List SetStep) → Each (λ s. Unit {0}) x
      each_of_none [] = tt
      each_of_none (s ∷ x) = (tt, each_of_none x)
  against_later i x m zero j l le (y ∷ ys) o = absurd o
  against_later i x m (suc k) j l le [] o = absurd o
  against_later i x m (suc k) j l le (y ∷ ys) o =
      each_both (λ s. Each (λ u. Independent s u) y) (λ s. EachOf (λ u. Independent s u) ys) x
      (each_more
      (λ s q. independent_of s b (with_counter j ρ) (round_room a kind n b j) q y o.0) x
      (each_of_mixing _ _ b (with_counter i ρ) (round_room a kind n b i) (apart i j l (omega arith)) x m))
      (against_later i x m k (suc j) (omega arith) (omega arith) ys o.1)

  unraced : (k i : ℕ) → i + k ≤ n → (xs : List (List SetStep)) → OneEach (up_from i k) Round xs → Unraced xs
  unraced zero i l [] o = tt
  unraced zero i l (x ∷ xs) o = absurd o
  unraced (suc k) i l [] o = absurd o
  unraced (suc k) i l (x ∷ xs) o = (
    against_later i x o.0 k (suc i) (omega arith) (omega arith) xs o.1,
    unraced k (suc i) (omega arith) xs o.1,
  )

-- Every mixing comes to the forward run

module _ (𝓝 : NumberDomain) where
  -- rounds one after the other, each of which comes to its run
  joined_rounds : (n : ℕ) (Round : ℕ → List SetStep → Type 0) (F : ℕ → State 𝓝 → State 𝓝)
      → ((i : ℕ) → i < n → (x : List SetStep) → Round i x → (st : State 𝓝) → in_turn x (do_step 𝓝) st ≡ F i st)
      → (k i : ℕ) → i + k ≤ n → (xs : List (List SetStep)) → OneEach (up_from i k) Round xs
      → (st : State 𝓝) → in_turn (joined xs) (do_step 𝓝) st ≡ in_turn (up_from i k) F st
  joined_rounds n Round F h zero i l [] o st = refl
  joined_rounds n Round F h zero i l (x ∷ xs) o st = absurd o
  joined_rounds n Round F h (suc k) i l [] o st = absurd o
  joined_rounds n Round F h (suc k) i l (x ∷ xs) o st =
      in_turn_append x (joined xs) (do_step 𝓝) st
      ∙ ap (in_turn (joined xs) (do_step 𝓝)) (h i (omega arith) x o.0 st)
      ∙ joined_rounds n Round F h k (suc i) (omega arith) xs o.1 (F i st)

  -- rounds that are apart, mixed
  mixed_rounds_holds : (kind : LoopKind) (n : ℕ) (b : Command) (ρ : Environment) (a : ℕ) → RoundsApart kind n b ρ a
      → (F : ℕ → State 𝓝 → State 𝓝)
      → ((i : ℕ) → i < n → (x : List SetStep) → Mixing b (with_counter i ρ) (round_room a kind n b i) x
      → (st : State 𝓝) → in_turn x (do_step 𝓝) st ≡ F i st)
      → (xs : List (List SetStep)) → OneEach (up_from 0 n) (λ i x. Mixing b (with_counter i ρ) (round_room a kind n b i) x) xs
      → (l : List SetStep) → Mixed xs l
      → (st : State 𝓝) → in_turn l (do_step 𝓝) st ≡ in_turn (up_from 0 n) F st
  mixed_rounds_holds kind n b ρ a apart F each xs o l m st =
      mixed_in_turn 𝓝 xs l m (unraced kind n b ρ a apart n 0 (omega arith) xs o) st
      ∙ joined_rounds n (λ i x. Mixing b (with_counter i ρ) (round_room a kind n b i) x) F each n 0 (omega arith) xs o st

  pub mixing_is_forward : (c : Command) (ρ : Environment) (a : ℕ) → WithoutRaces c ρ a
      → (l : List SetStep) → Mixing c ρ a l
      → (st : State 𝓝) → in_turn l (do_step 𝓝) st ≡ run 𝓝 c (always forward c) ρ a st
  unfolding WithoutRaces Mixing run always forward
  mixing_is_forward (Command.assignment p v) ρ a h l m st = ap (λ (x : List SetStep). in_turn x (do_step 𝓝) st) m
  mixing_is_forward (seq c d) ρ a h l m st =
      ap (λ (x : List SetStep). in_turn x (do_step 𝓝) st) m.4
      ∙ in_turn_append m.0 m.1 (do_step 𝓝) st
      ∙ ap (in_turn m.1 (do_step 𝓝)) (mixing_is_forward c ρ (first_room a c d) h.0 m.0 m.2 st)
      ∙ mixing_is_forward d ρ (second_room a c d) h.1 m.1 m.3
      (run 𝓝 c (always forward c) ρ (first_room a c d) st)
  mixing_is_forward (loop LoopKind.parallel n b) ρ a h l m st =
      mixed_rounds_holds LoopKind.parallel n b ρ a h.1
      (λ i. run 𝓝 b (always forward b) (with_counter i ρ) (round_room a LoopKind.parallel n b i))
      (λ i li x q s. mixing_is_forward b (with_counter i ρ) (round_room a LoopKind.parallel n b i) (h.0 i li) x q s)
      m.0 m.1 l m.2 st
  mixing_is_forward (loop LoopKind.sequential n b) ρ a h l m st =
      ap (λ (x : List SetStep). in_turn x (do_step 𝓝) st) m.2
      ∙ joined_rounds n (λ i x. Mixing b (with_counter i ρ) (round_room a LoopKind.sequential n b i) x)
      (λ i. run 𝓝 b (always forward b) (with_counter i ρ) (round_room a LoopKind.sequential n b i))
      (λ i li x q s. mixing_is_forward b (with_counter i ρ) (round_room a LoopKind.sequential n b i) (h i li) x q s)
      n 0 (omega arith) m.0 m.1 st
  mixing_is_forward (loop LoopKind.lanes n b) ρ a h l m st =
      mixed_rounds_holds LoopKind.lanes n b ρ a h.1
      (λ i. run 𝓝 b (always forward b) (with_counter i ρ) (round_room a LoopKind.lanes n b i))
      (λ i li x q s. mixing_is_forward b (with_counter i ρ) (round_room a LoopKind.lanes n b i) (h.0 i li) x q s)
      m.0 m.1 l m.2 st
  mixing_is_forward (new c b) ρ a h l m st =
      mixing_is_forward b (with_region (region_room a c b) ρ) (body_room a c b) h l m st
