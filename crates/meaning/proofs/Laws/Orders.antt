-- Orders of rounds: no order is left out, and every round is taken once.
use Rattle.std.specs.Prelude.{◌≡◌, refl, ℕ, zero, suc, ◌+◌, ◌≤◌, ◌<◌, length}
use Rattle.std.proofs.Common.{sym, ◌∙◌, arith}
use Rattle.std.proofs.Math.Path.{ap}
use mathlib.Core.List.Permᴰ
use mathlib.Core.List.{List, [], ◌∷◌, Permᴰ}
use mathlib.Core.List.{Memᴰ}
use Rattle.std.proofs.Math.Decide.{ℕ_discrete}
use Rattle.meaning.specs.Terms.{LoopKind}
use Rattle.meaning.specs.Numbers.{NumberDomain}
use Rattle.meaning.specs.Sequence.{up_from, in_turn}
use Rattle.meaning.specs.Loops.{Command, seq, loop, new}
use Rattle.meaning.specs.Layout.{first_room, second_room, round_room, region_room, body_room}
use Rattle.meaning.specs.Runs.{Order, rounds_in, Orders, Environment, with_counter, with_region, State, run}
use Rattle.meaning.specs.Arbiters.{Arbiter, run_by}

-- No order is left out

module _ (𝓝 : NumberDomain) where
  -- The rounds of a loop, as a list names them: if in each the choice comes to what the arbiter comes to, so it does in all of them.
  pub rounds_by : (π : Arbiter) (b : Command) (visit : List ℕ) (chs : ℕ → Orders b) (room : ℕ → ℕ) (ρ : Environment)
      → ((i a : ℕ) (st : State 𝓝) → run 𝓝 b (chs i) (with_counter i ρ) a st ≡ run_by 𝓝 π b (i ∷ visit) (with_counter i ρ) a st)
      → (is : List ℕ) (st : State 𝓝)
      → in_turn is (λ i. run 𝓝 b (chs i) (with_counter i ρ) (room i)) st
      ≡ in_turn is (λ i. run_by 𝓝 π b (i ∷ visit) (with_counter i ρ) (room i)) st
  rounds_by π b visit chs room ρ h [] st = refl
  rounds_by π b visit chs room ρ h (i ∷ is) st =
      ap (in_turn is (λ j. run 𝓝 b (chs j) (with_counter j ρ) (room j))) (h i (room i) st)
      ∙ rounds_by π b visit chs room ρ h is (run_by 𝓝 π b (i ∷ visit) (with_counter i ρ) (room i) st)

  -- Whatever permutations an arbiter names, at every visit anew, some orders take just them.
  pub every_order : (π : Arbiter) → ((visit : List ℕ) (n : ℕ) → Permᴰ (π visit n) (up_from 0 n))
      → (c : Command) (visit : List ℕ)
      → (ch : Orders c) × ((ρ : Environment) (a : ℕ) (st : State 𝓝) → run 𝓝 c ch ρ a st ≡ run_by 𝓝 π c visit ρ a st)
  unfolding run run_by
  every_order π fair (Command.assignment p v) visit = (tt, λ ρ a st. refl)
  every_order π fair (seq c d) visit =
      let x = every_order π fair c (0 ∷ visit) in
      let y = every_order π fair d (1 ∷ visit) in (
        (x.0, y.0),
        λ ρ a st.
            ap (run 𝓝 d y.0 ρ (second_room a c d)) (x.1 ρ (first_room a c d) st)
            ∙ y.1 ρ (second_room a c d) (run_by 𝓝 π c (0 ∷ visit) ρ (first_room a c d) st),
      )
  every_order π fair (loop LoopKind.parallel n b) visit = (
    ((π visit n, fair visit n), λ i. (every_order π fair b (i ∷ visit)).0),
    λ ρ a st.
        rounds_by π b visit (λ i. (every_order π fair b (i ∷ visit)).0) (round_room a LoopKind.parallel n b) ρ
        (λ i x y. (every_order π fair b (i ∷ visit)).1 (with_counter i ρ) x y) (π visit n) st,
  )
  every_order π fair (loop LoopKind.sequential n b) visit = (
    (tt, λ i. (every_order π fair b (i ∷ visit)).0),
    λ ρ a st.
        rounds_by π b visit (λ i. (every_order π fair b (i ∷ visit)).0) (round_room a LoopKind.sequential n b) ρ
        (λ i x y. (every_order π fair b (i ∷ visit)).1 (with_counter i ρ) x y) (up_from 0 n) st,
  )
  every_order π fair (loop LoopKind.lanes n b) visit = (
    ((π visit n, fair visit n), λ i. (every_order π fair b (i ∷ visit)).0),
    λ ρ a st.
        rounds_by π b visit (λ i. (every_order π fair b (i ∷ visit)).0) (round_room a LoopKind.lanes n b) ρ
        (λ i x y. (every_order π fair b (i ∷ visit)).1 (with_counter i ρ) x y) (π visit n) st,
  )
  every_order π fair (new c b) visit = (
    (every_order π fair b visit).0,
    λ ρ a st. (every_order π fair b visit).1 (with_region (region_room a c b) ρ) (body_room a c b) st,
  )

-- Every round is taken once

pub permuted_member : {i : ℕ} {l m : List ℕ} → Permᴰ l m → Memᴰ i l → Memᴰ i m
permuted_member Permᴰ.nil h = h
permuted_member (Permᴰ.cons e d) (Memᴰ.head x) = Memᴰ.head (x ∙ e)
permuted_member (Permᴰ.cons e d) (Memᴰ.tail h) = Memᴰ.tail (permuted_member d h)
permuted_member (Permᴰ.swap e f) (Memᴰ.head x) = Memᴰ.tail (Memᴰ.head (x ∙ e))
permuted_member (Permᴰ.swap e f) (Memᴰ.tail (Memᴰ.head x)) = Memᴰ.head (x ∙ f)
permuted_member (Permᴰ.swap e f) (Memᴰ.tail (Memᴰ.tail h)) = Memᴰ.tail (Memᴰ.tail h)
permuted_member (Permᴰ.trans d f) h = permuted_member f (permuted_member d h)

permuted_length : {l m : List ℕ} → Permᴰ l m → length l ≡ length m
permuted_length Permᴰ.nil = refl
permuted_length (Permᴰ.cons e d) = ap suc (permuted_length d)
permuted_length (Permᴰ.swap e f) = refl
permuted_length (Permᴰ.trans d f) = permuted_length d ∙ permuted_length f

up_from_below : (k n i : ℕ) → Memᴰ i (up_from k n) → i < k + n
up_from_below k zero i h = elim h [ ]
up_from_below k (suc n) i (Memᴰ.head e) = omega arith
up_from_below k (suc n) i (Memᴰ.tail h) = let r = up_from_below (suc k) n i h in omega arith

up_from_above : (k n i : ℕ) → Memᴰ i (up_from k n) → k ≤ i
up_from_above k zero i h = elim h [ ]
up_from_above k (suc n) i (Memᴰ.head e) = omega arith
up_from_above k (suc n) i (Memᴰ.tail h) = let r = up_from_above (suc k) n i h in omega arith

up_from_all : (k n i : ℕ) → k ≤ i → i < k + n → Memᴰ i (up_from k n)
up_from_all k zero i h l = absurd (omega arith)
up_from_all k (suc n) i h l = go (ℕ_discrete i k) (λ x y. up_from_all (suc k) n i x y)
  where
    go : Dec (i ≡ k) → (suc k ≤ i → i < suc k + n → Memᴰ i (up_from (suc k) n)) → Memᴰ i (up_from k (suc n))
    go (yes e) r = Memᴰ.head e
    go (no ne) r = Memᴰ.tail (r (omega arith) (omega arith))

pub up_from_length : (k n : ℕ) → length (up_from k n) ≡ n
up_from_length k zero = refl
up_from_length k (suc n) = ap suc (up_from_length (suc k) n)

rounds_permuted : (kind : LoopKind) (n : ℕ) (o : Order kind n) → Permᴰ (rounds_in kind n o) (up_from 0 n)
rounds_permuted LoopKind.parallel n o = o.1
rounds_permuted LoopKind.sequential n o = Permᴰ.refl (up_from 0 n)
rounds_permuted LoopKind.lanes n o = o.1

pub rounds_below : (kind : LoopKind) (n : ℕ) (o : Order kind n) (i : ℕ) → Memᴰ i (rounds_in kind n o) → i < n
rounds_below kind n o i h =
    let r = up_from_below 0 n i (permuted_member (rounds_permuted kind n o) h) in omega arith

pub rounds_all : (kind : LoopKind) (n : ℕ) (o : Order kind n) (i : ℕ) → i < n → Memᴰ i (rounds_in kind n o)
rounds_all kind n o i h =
    permuted_member (Permᴰ.symm (rounds_permuted kind n o)) (up_from_all 0 n i (omega arith) (omega arith))

pub rounds_length : (kind : LoopKind) (n : ℕ) (o : Order kind n) → length (rounds_in kind n o) ≡ n
rounds_length kind n o = permuted_length (rounds_permuted kind n o) ∙ up_from_length 0 n

unfoldable pub NoRepeat : List ℕ → Type 0
NoRepeat [] = Unit {0}
NoRepeat (i ∷ l) = (Memᴰ i l → ⊥) × NoRepeat l

pub member_path : {i j : ℕ} {l : List ℕ} → i ≡ j → Memᴰ i l → Memᴰ j l
member_path e (Memᴰ.head x) = Memᴰ.head (sym e ∙ x)
member_path e (Memᴰ.tail m) = Memᴰ.tail (member_path e m)

permuted_no_repeat : {l m : List ℕ} → Permᴰ l m → NoRepeat l → NoRepeat m
unfolding NoRepeat
permuted_no_repeat Permᴰ.nil h = h
permuted_no_repeat (Permᴰ.cons e d) h =
    (λ k. h.0 (permuted_member (Permᴰ.symm d) (member_path (sym e) k)), permuted_no_repeat d h.1)
permuted_no_repeat (Permᴰ.swap {a} {b} {a'} {b'} {l} e f) h =
    (go, (λ k. h.0 (Memᴰ.tail (member_path (sym e) k)), h.1.1))
  where
    go : Memᴰ a' (b' ∷ l) → ⊥
    go (Memᴰ.head x) = h.0 (Memᴰ.head (e ∙ sym x ∙ sym f))
    go (Memᴰ.tail m) = h.1.0 (member_path (sym f) m)
permuted_no_repeat (Permᴰ.trans d f) h = permuted_no_repeat f (permuted_no_repeat d h)

up_from_no_repeat : (k n : ℕ) → NoRepeat (up_from k n)
unfolding NoRepeat
up_from_no_repeat k zero = tt
up_from_no_repeat k (suc n) =
    ((λ m. let r = up_from_above (suc k) n k m in omega arith), up_from_no_repeat (suc k) n)

pub rounds_no_repeat : (kind : LoopKind) (n : ℕ) (o : Order kind n) → NoRepeat (rounds_in kind n o)
rounds_no_repeat kind n o = permuted_no_repeat (Permᴰ.symm (rounds_permuted kind n o)) (up_from_no_repeat 0 n)
