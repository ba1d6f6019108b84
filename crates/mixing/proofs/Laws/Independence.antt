-- Steps of which neither writes what the other writes or reads can change places.
use Rattle.std.specs.Prelude.{◌≡◌, refl, ◌≢◌, List, [], ◌∷◌, ℕ, zero, suc, ◌+◌, set as put}
use Rattle.std.proofs.Common.{sym, ap, ap₂, ◌∙◌, get_or-set_other}
use Rattle.meaning.specs.Numbers.{NumberDomain}
use Rattle.meaning.specs.Values.{no_number}
use Rattle.meaning.specs.Loops.{Value, Command, seq, loop, new}
use Rattle.meaning.specs.Layout.{first_room, second_room, round_room, region_room, body_room}
use Rattle.meaning.specs.Runs.{offset_at, entry, Environment, with_counter, with_region, target, Store, State, value_in}
use Rattle.meaning.specs.Steps.{SetStep, do_step}
use Rattle.meaning.specs.Limits.{ReadsIn, Touches}
use Rattle.meaning.proofs.Laws.Holds.{CellSet}

-- What is touched, among more cells

pub reads_more : {R R' : CellSet} → ((x : ℕ) → R x → R' x)
    → (ins : List ℕ) (c r : ℕ → ℕ) (v : Value) → ReadsIn R ins c r v → ReadsIn R' ins c r v
reads_more h ins c r (Value.input k o) q = h _ q
reads_more h ins c r (Value.region d o) q = h _ q
reads_more h ins c r (Value.literal v) q = tt
reads_more h ins c r (Value.negate v) q = reads_more h ins c r v q
reads_more h ins c r (Value.operation o v w) q = (reads_more h ins c r v q.0, reads_more h ins c r w q.1)

pub touches_more : {Z R Z' R' : CellSet} → ((x : ℕ) → Z x → Z' x) → ((x : ℕ) → R x → R' x)
    → (c : Command) (ρ : Environment) (a : ℕ) → Touches Z R c ρ a → Touches Z' R' c ρ a
unfolding Touches
touches_more f g (Command.assignment p v) ρ a h =
    (f _ h.0, reads_more g ρ.input_bases (entry ρ.counters) (entry ρ.regions) v h.1)
touches_more f g (seq c d) ρ a h =
    (touches_more f g c ρ (first_room a c d) h.0, touches_more f g d ρ (second_room a c d) h.1)
touches_more f g (loop kind n b) ρ a h = λ i l. touches_more f g b (with_counter i ρ) (round_room a kind n b i) (h i l)
touches_more f g (new c b) ρ a h = touches_more f g b (with_region (region_room a c b) ρ) (body_room a c b) h

-- One step

-- the cell that it writes; and that it reads cells of R only
abbrev pub written_by : SetStep → ℕ
written_by s = target s.environment s.place

abbrev pub StepReads : CellSet → SetStep → Type 0
StepReads R s =
    ReadsIn R s.environment.input_bases (entry s.environment.counters) (entry s.environment.regions) s.value

pub step_reads_more : {R R' : CellSet} → ((x : ℕ) → R x → R' x) → (s : SetStep) → StepReads R s → StepReads R' s
step_reads_more h s q =
    reads_more h s.environment.input_bases (entry s.environment.counters) (entry s.environment.regions) s.value q

-- neither writes what the other writes or reads
pub record Independent (s u : SetStep) : Type 0 where
  pub written : written_by u ≢ written_by s
  pub not_read : StepReads (λ x. x ≢ written_by s) u
  pub not_read_by : StepReads (λ x. x ≢ written_by u) s

-- Independent steps change places

put_put : {A : Type 0} (l : List A) (i j : ℕ) (x y : A) → j ≢ i → put (put l i x) j y ≡ put (put l j y) i x
put_put [] i j x y ne = refl
put_put (z ∷ l) zero zero x y ne = absurd (ne refl)
put_put (z ∷ l) zero (suc j) x y ne = refl
put_put (z ∷ l) (suc i) zero x y ne = refl
put_put {A} (z ∷ l) (suc i) (suc j) x y ne = ap (λ (r : List A). z ∷ r) (put_put l i j x y (λ e. ne (ap suc e)))

module _ (𝓝 : NumberDomain) where
  value_unmoved : (s : Store 𝓝) (i : ℕ) (z : 𝓝.Number) (ins : List ℕ) (c r : ℕ → ℕ) (v : Value)
      → ReadsIn (λ x. x ≢ i) ins c r v → value_in 𝓝 ins c r (put s i z) v ≡ value_in 𝓝 ins c r s v
  value_unmoved s i z ins c r (Value.input k o) h = get_or-set_other s i (entry ins k + offset_at c o) z (no_number 𝓝) h
  value_unmoved s i z ins c r (Value.region d o) h = get_or-set_other s i (r d + offset_at c o) z (no_number 𝓝) h
  value_unmoved s i z ins c r (Value.literal v) h = refl
  value_unmoved s i z ins c r (Value.negate v) h = ap 𝓝.negate (value_unmoved s i z ins c r v h)
  value_unmoved s i z ins c r (Value.operation o v w) h =
      ap₂ (𝓝.operate o) (value_unmoved s i z ins c r v h.0) (value_unmoved s i z ins c r w h.1)

  abbrev step_value : SetStep → Store 𝓝 → 𝓝.Number
  step_value s m =
      value_in 𝓝 s.environment.input_bases (entry s.environment.counters) (entry s.environment.regions) m
      s.value

  unmoved : (s u : SetStep) (m : Store 𝓝) → StepReads (λ x. x ≢ written_by s) u
      → step_value u (put m (written_by s) (step_value s m)) ≡ step_value u m
  unmoved s u m h =
      value_unmoved m (written_by s) (step_value s m) u.environment.input_bases (entry u.environment.counters)
      (entry u.environment.regions) u.value h

  pub change_places : (s u : SetStep) → Independent s u
      → (st : State 𝓝) → do_step 𝓝 u (do_step 𝓝 s st) ≡ do_step 𝓝 s (do_step 𝓝 u st)
  change_places s u h st =
      let m : Store 𝓝 = st.store in
      let k : ℕ = suc (suc st.writes) in
      ap (λ (r : Store 𝓝). record { store = r; writes = k })
      (ap (λ (z : 𝓝.Number). put (put m (written_by s) (step_value s m)) (written_by u) z) (unmoved s u m h.not_read)
      ∙ put_put m (written_by s) (written_by u) (step_value s m) (step_value u m) h.written
      ∙ sym
      (ap (λ (z : 𝓝.Number). put (put m (written_by u) (step_value u m)) (written_by s) z)
      (unmoved u s m h.not_read_by)))
