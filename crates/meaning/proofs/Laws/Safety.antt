-- [9.9] Loops that pass touch only cells below the need, whoever wrote them.
use Rattle.std.specs.Prelude.{◌≡◌, refl, ℕ, zero, suc, ◌+◌, ◌/◌, ◌%◌, ◌≤◌, ◌<◌, length}
use Rattle.std.proofs.Common.{◌∙◌, le_trans, le_refl, le_of_suc-le-suc, not-suc-le-zero, le-div_iff_mul-le, div-mul-le_self, mul-le-mul_left, mod-lt, arith}
use mathlib.Core.List.{List, [], ◌∷◌, Memᴰ}
use Rattle.std.proofs.Math.Nat.{mod-le}
use Rattle.std.proofs.Math.Seq.{get_or-set_other}
use Rattle.meaning.specs.Numbers.{NumberDomain}
use Rattle.meaning.specs.Sequence.{in_turn}
use Rattle.meaning.specs.Values.{no_number}
use Rattle.meaning.specs.Loops.{Offset, Place, Value, Command, Loops, plus, times, over, rest, seq, loop, new}
use Rattle.meaning.specs.Layout.{room, first_room, second_room, round_room, region_room, body_room, regions_from}
use Rattle.meaning.specs.Layout.{need}
use Rattle.meaning.specs.Runs.{rounds_in, Orders, offset_at, entry, Environment, with_counter, with_region, target}
use Rattle.meaning.specs.Runs.{start_of, State, cell, value_in, run}
use Rattle.meaning.specs.Limits.{bound, counter_bound, OffsetPasses, OffsetFits, ValuePasses, PlacePasses}
use Rattle.meaning.specs.Limits.{CommandPasses, LoopsPass, ReadsIn, Touches, TouchesBelow}
use Rattle.meaning.proofs.Laws.Orders.{rounds_below}
use Rattle.meaning.proofs.Laws.Layout.{first_inside, second_inside, round_inside, region_inside, body_inside}
use Rattle.meaning.proofs.Laws.Layout.{base_fits}

-- The bound bounds

quotient_monotone : (x y n : ℕ) → 1 ≤ n → x ≤ y → x / n ≤ y / n
quotient_monotone x y n h l = (le-div_iff_mul-le {k = n} h).1 (le_trans (div-mul-le_self x n) l)

-- of any offset whose rows pass, under k counters c that are within their bounds b
pub bound_sound : (k : ℕ) (c b : ℕ → ℕ) → ((d : ℕ) → d < k → c d ≤ b d)
    → (o : Offset) → OffsetPasses k b o → offset_at c o ≤ bound b o
bound_sound k c b h (Offset.literal v) r = le_refl v
bound_sound k c b h (Offset.counter d) r = h d r.0
bound_sound k c b h (plus x y) r =
    let p = bound_sound k c b h x r.0 in let q = bound_sound k c b h y r.1 in omega arith
bound_sound k c b h (times n x) r = let p = bound_sound k c b h x r.0 in mul-le-mul_left n p
bound_sound k c b h (over n x) r =
    quotient_monotone (offset_at c x) (bound b x) n r.1.0 (bound_sound k c b h x r.0)
bound_sound k c b h (rest n x) r =
    let p = bound_sound k c b h x r.0 in
    let q = mod-le (offset_at c x) n in
    let s : offset_at c x % n < n = mod-lt (offset_at c x) r.1.0 in
    omega arith

-- Where things lie: inputs, output and regions, with their cells, below L; the counters below their loops' numbers
-- of rounds.
pub record LaidOut (ins : List ℕ) (out : ℕ) (ns rs : List ℕ) (ρ : Environment) (L : ℕ) : Type 0 where
  pub inputs_below : (k : ℕ) → k < length ins → entry ρ.input_bases k + entry ins k ≤ L
  pub output_below : ρ.output_base + out ≤ L
  pub counters_below : (d : ℕ) → d < length ns → entry ρ.counters d < entry ns d
  pub regions_below : (d : ℕ) → d < length rs → entry ρ.regions d + entry rs d ≤ L

laid_out_loop : {ins : List ℕ} {out : ℕ} {ns rs : List ℕ} {ρ : Environment} {L : ℕ} (i n : ℕ)
    → i < n → LaidOut ins out ns rs ρ L → LaidOut ins out (n ∷ ns) rs (with_counter i ρ) L
laid_out_loop {ns} {ρ} i n l W = record {
  inputs_below = W.inputs_below;
  output_below = W.output_below;
  counters_below = go;
  regions_below = W.regions_below;
}
  where
    go : (d : ℕ) → d < length (n ∷ ns) → entry (i ∷ ρ.counters) d < entry (n ∷ ns) d
    go zero h = l
    go (suc d) h = W.counters_below d (le_of_suc-le-suc h)

laid_out_region : {ins : List ℕ} {out : ℕ} {ns rs : List ℕ} {ρ : Environment} {L : ℕ} (b n : ℕ)
    → b + n ≤ L → LaidOut ins out ns rs ρ L → LaidOut ins out ns (n ∷ rs) (with_region b ρ) L
laid_out_region {rs} {ρ} {L} b n l W = record {
  inputs_below = W.inputs_below;
  output_below = W.output_below;
  counters_below = W.counters_below;
  regions_below = go;
}
  where
    go : (d : ℕ) → d < length (n ∷ rs) → entry (b ∷ ρ.regions) d + entry (n ∷ rs) d ≤ L
    go zero h = l
    go (suc d) h = W.regions_below d (le_of_suc-le-suc h)

module _ {ins : List ℕ} {out : ℕ} {ns rs : List ℕ} {ρ : Environment} {L : ℕ} (W : LaidOut ins out ns rs ρ L) where
  offset_below : (o : Offset) (n : ℕ) → OffsetFits (length ns) (counter_bound ns) o n
      → offset_at (entry ρ.counters) o < n
  offset_below o n k =
      let b =
      bound_sound (length ns) (entry ρ.counters) (counter_bound ns)
      (λ d l. let x = W.counters_below d l in omega arith) o k.0 in
      let c = k.1 in
      omega arith

  value_below : (v : Value) → ValuePasses ins (length ns) (counter_bound ns) (length rs) (entry rs) v
      → ReadsIn (λ x. x < L) ρ.input_bases (entry ρ.counters) (entry ρ.regions) v
  value_below (Value.input k o) h =
      let x = W.inputs_below k h.0 in let y = offset_below o (entry ins k) h.1 in omega arith
  value_below (Value.region d o) h =
      let x = W.regions_below d h.0 in let y = offset_below o (entry rs d) h.1 in omega arith
  value_below (Value.literal v) h = tt
  value_below (Value.negate v) h = value_below v h
  value_below (Value.operation o v w) h = (value_below v h.0, value_below w h.1)

  place_below : (p : Place) → PlacePasses out (length ns) (counter_bound ns) (length rs) (entry rs) p → target ρ p < L
  place_below (Place.output o) h = let x = W.output_below in let y = offset_below o out h in omega arith
  place_below (Place.region d o) h =
      let x = W.regions_below d h.0 in let y = offset_below o (entry rs d) h.1 in omega arith

command_below : {ins : List ℕ} {out : ℕ} (c : Command) {ns rs : List ℕ} {ρ : Environment} (a L : ℕ)
    → LaidOut ins out ns rs ρ L → CommandPasses ins out ns rs c → a + room c ≤ L → TouchesBelow L c ρ a
unfolding CommandPasses Touches
command_below (Command.assignment p v) a L W h l = (place_below W p h.0, value_below W v h.1)
command_below (seq c d) a L W h l =
    let x = first_inside a c d in
    let y = second_inside a c d in (
      command_below c (first_room a c d) L W h.0 (omega (arith, x.below)),
      command_below d (second_room a c d) L W h.1 (omega (arith, y.below)),
    )
command_below (loop kind n b) a L W h l = λ i li.
    let x = round_inside a kind n b i li in
    command_below b (round_room a kind n b i) L (laid_out_loop i n li W) h.2 (omega (arith, x.below))
command_below (new c b) a L W h l =
    let x = region_inside a c b in
    let y = body_inside a c b in
    command_below b (body_room a c b) L (laid_out_region (region_room a c b) c (omega (arith, x.below)) W) h.2
    (omega (arith, y.below))

pub loops_touch_below : (L : Loops) → LoopsPass L → TouchesBelow (need L) L.command (start_of L) (regions_from L)
unfolding need
loops_touch_below L h =
    command_below L.command (regions_from L) (need L)
    (record {
      inputs_below = λ k l. let x = base_fits L.inputs 0 k l in omega arith;
      output_below = omega arith;
      counters_below = λ d l. absurd (not-suc-le-zero l);
      regions_below = λ d l. absurd (not-suc-le-zero l);
    })
    h.within.passes (le_refl (need L))

-- What touches only cells below L leaves the others as they were.
module _ (𝓝 : NumberDomain) where
  rounds_beyond : (L n : ℕ) (F : ℕ → State 𝓝 → State 𝓝)
      → ((i : ℕ) → i < n → (st : State 𝓝) (x : ℕ) → L ≤ x → cell 𝓝 (F i st).store x ≡ cell 𝓝 st.store x)
      → (is : List ℕ) → ((i : ℕ) → Memᴰ i is → i < n)
      → (st : State 𝓝) (x : ℕ) → L ≤ x → cell 𝓝 (in_turn is F st).store x ≡ cell 𝓝 st.store x
  rounds_beyond L n F h [] b st x l = refl
  rounds_beyond L n F h (i ∷ is) b st x l =
      rounds_beyond L n F h is (λ j m. b j (Memᴰ.tail m)) (F i st) x l ∙ h i (b i (Memᴰ.head refl)) st x l

  pub beyond_kept_holds : (L : ℕ) (c : Command) (ch : Orders c) (ρ : Environment) (a : ℕ)
      → TouchesBelow L c ρ a
      → (st : State 𝓝) (x : ℕ) → L ≤ x → cell 𝓝 (run 𝓝 c ch ρ a st).store x ≡ cell 𝓝 st.store x
  unfolding run Touches
  beyond_kept_holds L (Command.assignment p v) ch ρ a h st x l =
      let y = h.0 in
      get_or-set_other st.store (target ρ p) x
      (value_in 𝓝 ρ.input_bases (entry ρ.counters) (entry ρ.regions) st.store v) (no_number 𝓝)
      (λ e. omega arith)
  beyond_kept_holds L (seq c d) ch ρ a h st x l =
      beyond_kept_holds L d ch.1 ρ (second_room a c d) h.1 (run 𝓝 c ch.0 ρ (first_room a c d) st) x l
      ∙ beyond_kept_holds L c ch.0 ρ (first_room a c d) h.0 st x l
  beyond_kept_holds L (loop kind n b) ch ρ a h st x l =
      rounds_beyond L n (λ i. run 𝓝 b (ch.1 i) (with_counter i ρ) (round_room a kind n b i))
      (λ i li s y m. beyond_kept_holds L b (ch.1 i) (with_counter i ρ) (round_room a kind n b i) (h i li) s y m)
      (rounds_in kind n ch.0) (rounds_below kind n ch.0) st x l
  beyond_kept_holds L (new c b) ch ρ a h st x l =
      beyond_kept_holds L b ch (with_region (region_room a c b) ρ) (body_room a c b) h st x l
