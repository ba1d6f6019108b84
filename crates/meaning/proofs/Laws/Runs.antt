-- The run as a function and as a relation are the same: each run is a choice of orders, and each choice a run.
use Rattle.std.specs.Prelude.{◌≡◌}
use Rattle.std.proofs.Math.Path.{refl, sym, ap}
use Rattle.std.proofs.Common.{◌∙◌}
use mathlib.Core.List.{List, [], ◌∷◌, Memᴰ}
use Prim.Native.Nat.{ℕ}
use Rattle.std.proofs.Math.Decide.{ℕ_discrete}
use Rattle.meaning.specs.Numbers.{NumberDomain}
use Rattle.meaning.specs.Sequence.{in_turn}
use Rattle.meaning.specs.Loops.{Command, seq, loop, new}
use Rattle.meaning.specs.Layout.{first_room, second_room, round_room, region_room, body_room}
use Rattle.meaning.specs.Runs.{rounds_in, Orders, Environment, with_counter, with_region, State, run, Rounds, Run}
use Rattle.meaning.specs.NamedOrders.{forward, always}
use Rattle.meaning.proofs.Laws.Orders.{NoRepeat, member_path, rounds_no_repeat}

-- Choices for one counter and for the others

choose_by : {A B : Type 0} → Dec A → B → B → B
choose_by (yes e) b c = b
choose_by (no n) b c = c

choose_yes : {A B : Type 0} (d : Dec A) (b c : B) → A → choose_by d b c ≡ b
unfolding choose_by
choose_yes (yes e) b c a = refl
choose_yes (no n) b c a = absurd (n a)

choose_no : {A B : Type 0} (d : Dec A) (b c : B) → (A → ⊥) → choose_by d b c ≡ c
unfolding choose_by
choose_no (yes e) b c a = absurd (a e)
choose_no (no n) b c a = refl

-- b for counter i, and f for the others
abbrev choose_at : {B : Type 0} → ℕ → B → (ℕ → B) → ℕ → B
choose_at i b f j = choose_by (ℕ_discrete j i) b (f j)

module _ (𝓝 : NumberDomain) where
  -- Rounds of F, which has a choice of type B to make in each
  module _ {B : Type 0} (F : ℕ → B → State 𝓝 → State 𝓝) where
    same_choices : (f g : ℕ → B) (is : List ℕ) → ((j : ℕ) → Memᴰ j is → f j ≡ g j)
        → (st : State 𝓝) → in_turn is (λ i. F i (f i)) st ≡ in_turn is (λ i. F i (g i)) st
    same_choices f g [] h st = refl
    same_choices f g (i ∷ is) h st =
        ap (λ (b : B). in_turn is (λ j. F j (f j)) (F i b st)) (h i (Memᴰ.head refl))
        ∙ same_choices f g is (λ j m. h j (Memᴰ.tail m)) (F i (g i) st)

    rounds_choice : (Round : ℕ → State 𝓝 → State 𝓝 → Type 0)
        → ((i : ℕ) (st st' : State 𝓝) → Round i st st' → (b : B) × (F i b st ≡ st'))
        → B → (is : List ℕ) → NoRepeat is → (st st' : State 𝓝) → Rounds 𝓝 is Round st st'
        → (f : ℕ → B) × (in_turn is (λ i. F i (f i)) st ≡ st')
    unfolding NoRepeat
    rounds_choice Round ih b₀ [] once st st' r = ((λ i. b₀), sym r)
    rounds_choice Round ih b₀ (i ∷ is) once st st' r =
        let c = ih i st r.0 r.1 in
        let t = rounds_choice Round ih b₀ is once.1 r.0 st' r.2 in
        let f : ℕ → B = choose_at i c.0 t.0 in (
          f,
          ap (λ (b : B). in_turn is (λ j. F j (f j)) (F i b st)) (choose_yes (ℕ_discrete i i) c.0 (t.0 i) refl)
              ∙ ap (in_turn is (λ j. F j (f j))) c.1
              ∙ same_choices f t.0 is
              (λ j m. choose_no (ℕ_discrete j i) c.0 (t.0 j) (λ e. once.0 (member_path e m)))
              r.0
              ∙ t.1,
        )

    choice_rounds : (Round : ℕ → State 𝓝 → State 𝓝 → Type 0) (f : ℕ → B)
        → ((i : ℕ) (st : State 𝓝) → Round i st (F i (f i) st))
        → (is : List ℕ) (st : State 𝓝) → Rounds 𝓝 is Round st (in_turn is (λ i. F i (f i)) st)
    choice_rounds Round f h [] st = refl
    choice_rounds Round f h (i ∷ is) st = (F i (f i) st, h i st, choice_rounds Round f h is (F i (f i) st))

  pub run_choice : (c : Command) (ρ : Environment) (a : ℕ) (st st' : State 𝓝)
      → Run 𝓝 c ρ a st st' → (ch : Orders c) × (run 𝓝 c ch ρ a st ≡ st')
  unfolding Run run
  run_choice (Command.assignment p v) ρ a st st' r = (tt, sym r)
  run_choice (seq c d) ρ a st st' r =
      let x = run_choice c ρ (first_room a c d) st r.0 r.1 in
      let y = run_choice d ρ (second_room a c d) r.0 st' r.2 in
      ((x.0, y.0), ap (run 𝓝 d y.0 ρ (second_room a c d)) x.1 ∙ y.1)
  run_choice (loop kind n b) ρ a st st' r =
      let t =
      rounds_choice (λ i ch x. run 𝓝 b ch (with_counter i ρ) (round_room a kind n b i) x)
      (λ i x y. Run 𝓝 b (with_counter i ρ) (round_room a kind n b i) x y)
      (λ i x y h. run_choice b (with_counter i ρ) (round_room a kind n b i) x y h)
      (always forward b) (rounds_in kind n r.0) (rounds_no_repeat kind n r.0) st st' r.1 in
      ((r.0, t.0), t.1)
  run_choice (new c b) ρ a st st' r = run_choice b (with_region (region_room a c b) ρ) (body_room a c b) st st' r

  pub choice_run : (c : Command) (ch : Orders c) (ρ : Environment) (a : ℕ) (st : State 𝓝)
      → Run 𝓝 c ρ a st (run 𝓝 c ch ρ a st)
  unfolding Run run
  choice_run (Command.assignment p v) ch ρ a st = refl
  choice_run (seq c d) ch ρ a st =
      let st₁ : State 𝓝 = run 𝓝 c ch.0 ρ (first_room a c d) st in
      (st₁, choice_run c ch.0 ρ (first_room a c d) st, choice_run d ch.1 ρ (second_room a c d) st₁)
  choice_run (loop kind n b) ch ρ a st = (
    ch.0,
    choice_rounds (λ i c x. run 𝓝 b c (with_counter i ρ) (round_room a kind n b i) x)
        (λ i x y. Run 𝓝 b (with_counter i ρ) (round_room a kind n b i) x y)
        ch.1
        (λ i x. choice_run b (ch.1 i) (with_counter i ρ) (round_room a kind n b i) x)
        (rounds_in kind n ch.0) st,
  )
  choice_run (new c b) ch ρ a st = choice_run b ch (with_region (region_room a c b) ρ) (body_room a c b) st
