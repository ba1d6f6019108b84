-- Runs and arbiters: each run is the run by an arbiter that names just the orders it took, and a run in which every
-- `par` takes the order named is the run by the arbiter that names it.
use Rattle.std.specs.Prelude.{◌≡◌, ℕ, zero, suc}
use Rattle.std.proofs.Math.Path.{refl, ap}
use Rattle.std.proofs.Common.{sym, ◌∙◌, subst}
use mathlib.Core.List.Permᴰ
use mathlib.Core.List.{List, [], ◌∷◌, ◌++◌, Permᴰ, append-nil}
use Rattle.std.proofs.Math.Decide.{ℕ_discrete}
use Rattle.meaning.specs.Terms.{LoopKind}
use Rattle.meaning.specs.Numbers.{NumberDomain}
use Rattle.meaning.specs.Sequence.{up_from, in_turn}
use Rattle.meaning.specs.Loops.{Command, seq, loop, new}
use Rattle.meaning.specs.Layout.{first_room, second_room, round_room, region_room, body_room}
use Rattle.meaning.specs.Runs.{Order, Orders, Environment, with_counter, with_region, State, run}
use Rattle.meaning.specs.Arbiters.{Arbiter, run_by}
use Rattle.meaning.specs.NamedOrders.{always}
use Rattle.meaning.proofs.Laws.Orders.{rounds_by}

-- The way from the top, first step first, and the visit, last step first

abbrev visit_after : List ℕ → List ℕ → List ℕ
visit_after [] visit = visit
visit_after (i ∷ way) visit = visit_after way (i ∷ visit)

visit_of_way : (way visit rest : List ℕ) → visit_after (visit_after way visit) rest ≡ visit_after visit (way ++ rest)
visit_of_way [] visit rest = refl
visit_of_way (i ∷ way) visit rest = visit_of_way way (i ∷ visit) rest

-- The order that a choice takes at the end of a way, n being the rounds of the `par` or `lanes` there; elsewhere the rising one

abbrev order_if : (m n : ℕ) → Dec (m ≡ n) → Order LoopKind.parallel m → List ℕ
order_if m n (yes e) o = o.0
order_if m n (no d) o = up_from 0 n

abbrev order_at : (c : Command) → Orders c → List ℕ → ℕ → List ℕ
order_at (Command.assignment p v) ch way n = up_from 0 n
order_at (seq c d) ch [] n = up_from 0 n
order_at (seq c d) ch (zero ∷ way) n = order_at c ch.0 way n
order_at (seq c d) ch (suc i ∷ way) n = order_at d ch.1 way n
order_at (loop LoopKind.parallel m b) ch [] n = order_if m n (ℕ_discrete m n) ch.0
order_at (loop LoopKind.sequential m b) ch [] n = up_from 0 n
order_at (loop LoopKind.lanes m b) ch [] n = order_if m n (ℕ_discrete m n) ch.0
order_at (loop kind m b) ch (i ∷ way) n = order_at b (ch.1 i) way n
order_at (new c b) ch way n = order_at b ch way n

if_fair : (m n : ℕ) (d : Dec (m ≡ n)) (o : Order LoopKind.parallel m) → Permᴰ (order_if m n d o) (up_from 0 n)
if_fair m n (yes e) o = subst (λ (k : ℕ). Permᴰ o.0 (up_from 0 k)) e o.1
if_fair m n (no d) o = Permᴰ.refl (up_from 0 n)

if_same : (n : ℕ) (d : Dec (n ≡ n)) (o : Order LoopKind.parallel n) → order_if n n d o ≡ o.0
if_same n (yes e) o = refl
if_same n (no d) o = absurd (d refl)

order_fair : (c : Command) (ch : Orders c) (way : List ℕ) (n : ℕ) → Permᴰ (order_at c ch way n) (up_from 0 n)
order_fair (Command.assignment p v) ch way n = Permᴰ.refl (up_from 0 n)
order_fair (seq c d) ch [] n = Permᴰ.refl (up_from 0 n)
order_fair (seq c d) ch (zero ∷ way) n = order_fair c ch.0 way n
order_fair (seq c d) ch (suc i ∷ way) n = order_fair d ch.1 way n
order_fair (loop LoopKind.parallel m b) ch [] n = if_fair m n (ℕ_discrete m n) ch.0
order_fair (loop LoopKind.sequential m b) ch [] n = Permᴰ.refl (up_from 0 n)
order_fair (loop LoopKind.lanes m b) ch [] n = if_fair m n (ℕ_discrete m n) ch.0
order_fair (loop LoopKind.parallel m b) ch (i ∷ way) n = order_fair b (ch.1 i) way n
order_fair (loop LoopKind.sequential m b) ch (i ∷ way) n = order_fair b (ch.1 i) way n
order_fair (loop LoopKind.lanes m b) ch (i ∷ way) n = order_fair b (ch.1 i) way n
order_fair (new c b) ch way n = order_fair b ch way n

-- the arbiter that names at each visit the order that the choice takes there
pub arbiter_of : (c : Command) → Orders c → Arbiter
arbiter_of c ch visit n = order_at c ch (visit_after visit []) n

pub arbiter_fair : (c : Command) (ch : Orders c) (visit : List ℕ) (n : ℕ)
    → Permᴰ (arbiter_of c ch visit n) (up_from 0 n)
unfolding arbiter_of
arbiter_fair c ch visit n = order_fair c ch (visit_after visit []) n

module _ (𝓝 : NumberDomain) where
  -- rounds that do the same come to the same
  -- A choice's run is the run by every arbiter that names the same orders from this visit on.
  run_by_same : (π : Arbiter) (c : Command) (ch : Orders c) (visit : List ℕ)
      → ((way : List ℕ) (n : ℕ) → π (visit_after way visit) n ≡ order_at c ch way n)
      → (ρ : Environment) (a : ℕ) (st : State 𝓝) → run 𝓝 c ch ρ a st ≡ run_by 𝓝 π c visit ρ a st
  unfolding run run_by
  run_by_same π (Command.assignment p v) ch visit same ρ a st = refl
  run_by_same π (seq c d) ch visit same ρ a st =
      ap (run 𝓝 d ch.1 ρ (second_room a c d))
      (run_by_same π c ch.0 (0 ∷ visit) (λ way n. same (0 ∷ way) n) ρ (first_room a c d) st)
      ∙ run_by_same π d ch.1 (1 ∷ visit) (λ way n. same (1 ∷ way) n) ρ (second_room a c d)
      (run_by 𝓝 π c (0 ∷ visit) ρ (first_room a c d) st)
  run_by_same π (loop LoopKind.parallel n b) ch visit same ρ a st =
      rounds_by 𝓝 π b visit ch.1 (round_room a LoopKind.parallel n b) ρ
      (λ i x y. run_by_same π b (ch.1 i) (i ∷ visit) (λ way k. same (i ∷ way) k) (with_counter i ρ) x y) ch.0.0 st
      ∙ ap (λ (is : List ℕ). in_turn is (λ i. run_by 𝓝 π b (i ∷ visit) (with_counter i ρ) (round_room a LoopKind.parallel n b i)) st)
      (sym (same [] n ∙ if_same n (ℕ_discrete n n) ch.0))
  run_by_same π (loop LoopKind.sequential n b) ch visit same ρ a st =
      rounds_by 𝓝 π b visit ch.1 (round_room a LoopKind.sequential n b) ρ
      (λ i x y. run_by_same π b (ch.1 i) (i ∷ visit) (λ way k. same (i ∷ way) k) (with_counter i ρ) x y) (up_from 0 n) st
  run_by_same π (loop LoopKind.lanes n b) ch visit same ρ a st =
      rounds_by 𝓝 π b visit ch.1 (round_room a LoopKind.lanes n b) ρ
      (λ i x y. run_by_same π b (ch.1 i) (i ∷ visit) (λ way k. same (i ∷ way) k) (with_counter i ρ) x y) ch.0.0 st
      ∙ ap (λ (is : List ℕ). in_turn is (λ i. run_by 𝓝 π b (i ∷ visit) (with_counter i ρ) (round_room a LoopKind.lanes n b i)) st)
      (sym (same [] n ∙ if_same n (ℕ_discrete n n) ch.0))
  run_by_same π (new c b) ch visit same ρ a st =
      run_by_same π b ch visit same (with_region (region_room a c b) ρ) (body_room a c b) st

  pub run_by_arbiter : (c : Command) (ch : Orders c) (ρ : Environment) (a : ℕ) (st : State 𝓝)
      → run 𝓝 c ch ρ a st ≡ run_by 𝓝 (arbiter_of c ch) c [] ρ a st
  unfolding arbiter_of
  run_by_arbiter c ch ρ a st =
      run_by_same (arbiter_of c ch) c ch []
      (λ way n.
      ap (λ (w : List ℕ). order_at c ch w n) (visit_of_way way [] [] ∙ append-nil way))
      ρ a st

  -- The run in which every `par` and every `lanes` takes the order named.
  pub run_by_name : (o : (n : ℕ) → Order LoopKind.parallel n) (c : Command) (visit : List ℕ)
      → (ρ : Environment) (a : ℕ) (st : State 𝓝)
      → run 𝓝 c (always o c) ρ a st ≡ run_by 𝓝 (λ v n. (o n).0) c visit ρ a st
  unfolding run run_by always
  run_by_name o (Command.assignment p v) visit ρ a st = refl
  run_by_name o (seq c d) visit ρ a st =
      ap (run 𝓝 d (always o d) ρ (second_room a c d)) (run_by_name o c (0 ∷ visit) ρ (first_room a c d) st)
      ∙ run_by_name o d (1 ∷ visit) ρ (second_room a c d)
      (run_by 𝓝 (λ v n. (o n).0) c (0 ∷ visit) ρ (first_room a c d) st)
  run_by_name o (loop LoopKind.parallel n b) visit ρ a st =
      rounds_by 𝓝 (λ v n. (o n).0) b visit (λ i. always o b) (round_room a LoopKind.parallel n b) ρ
      (λ i x y. run_by_name o b (i ∷ visit) (with_counter i ρ) x y) (o n).0 st
  run_by_name o (loop LoopKind.sequential n b) visit ρ a st =
      rounds_by 𝓝 (λ v n. (o n).0) b visit (λ i. always o b) (round_room a LoopKind.sequential n b) ρ
      (λ i x y. run_by_name o b (i ∷ visit) (with_counter i ρ) x y) (up_from 0 n) st
  run_by_name o (loop LoopKind.lanes n b) visit ρ a st =
      rounds_by 𝓝 (λ v n. (o n).0) b visit (λ i. always o b) (round_room a LoopKind.lanes n b) ρ
      (λ i x y. run_by_name o b (i ∷ visit) (with_counter i ρ) x y) (o n).0 st
  run_by_name o (new c b) visit ρ a st =
      run_by_name o b visit (with_region (region_room a c b) ρ) (body_room a c b) st
