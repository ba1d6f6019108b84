-- Loops that pass question 9 and are in range are those that `LoopsPass` of `meaning` accepts. Assumes nothing.
use Rattle.std.specs.Prelude.{◌≡◌, List, [], ◌∷◌, ℕ, zero, suc, ◌+◌, ◌<◌, length}
use Rattle.std.proofs.Math.Path.{refl}
use Rattle.std.proofs.Common.{sym, subst, arith, add-one}
use Rattle.std.proofs.Math.Option.{Option, none, some}
use Rattle.refusals.specs.declared.Refusal.{Refusal}
use Rattle.meaning.specs.Loops.{Place, Value, Command, Loops, seq, loop, new, Offset, plus, times, over, rest}
use Rattle.meaning.specs.Runs.{entry}
use Rattle.meaning.specs.Limits.{IsCount, counter_bound, ValuePasses, PlacePasses, CommandPasses, LoopsPass, LoopsWithin, OffsetPasses}
use Rattle.syntax.specs.InRange.{OffsetInRange, PlaceInRange, ValueInRange, CommandInRange, AllCounts, LoopsInRange}
use Rattle.bounds.specs.Bounds.{first_no, ask_value, ask_place, ask_set, ask_command, ask_bounds}
use Rattle.bounds.specs.Laws.{offset_fits, offset_asked, some_none}

none_first : (a b : Option Refusal) → first_no a b ≡ none → (a ≡ none) × (b ≡ none)
none_first none b e = (refl, e)
none_first (some q) b e = some_none e

none_both : (a b : Option Refusal) → a ≡ none → b ≡ none → first_no a b ≡ none
none_both none b e f = f
none_both (some q) b e f = e

module _ (ins : List ℕ) (k : ℕ) (c : ℕ → ℕ) (r : ℕ) (m : ℕ → ℕ) where
  value_passes : (v : Value) (line : ℕ) → ValueInRange (length ins) k r v → ask_value ins c m line v ≡ none → ValuePasses ins k c r m v
  unfolding ask_value
  value_passes (Value.input j o) line h e = (h.0, offset_fits k c (entry ins j) line o h.1 e)
  value_passes (Value.region d o) line h e = (h.0, offset_fits k c (m d) line o h.1 e)
  value_passes (Value.literal z) line h e = tt
  value_passes (Value.negate v) line h e = value_passes v (line + 1) h e
  value_passes (Value.operation o v w) line h e =
      let g = none_first (ask_value ins c m (line + 1) v) _ e in
      (value_passes v (line + 1) h.0 g.0, value_passes w _ h.1 g.1)

  value_asked : (v : Value) (line : ℕ) → ValuePasses ins k c r m v → ask_value ins c m line v ≡ none
  unfolding ask_value
  value_asked (Value.input j o) line h = offset_asked k c (entry ins j) line o h.1
  value_asked (Value.region d o) line h = offset_asked k c (m d) line o h.1
  value_asked (Value.literal z) line h = refl
  value_asked (Value.negate v) line h = value_asked v (line + 1) h
  value_asked (Value.operation o v w) line h =
      none_both (ask_value ins c m (line + 1) v) _ (value_asked v (line + 1) h.0) (value_asked w _ h.1)

module _ (out : ℕ) (k : ℕ) (c : ℕ → ℕ) (r : ℕ) (m : ℕ → ℕ) where
  place_passes : (p : Place) (line : ℕ) → PlaceInRange k r p → ask_place out c m line p ≡ none → PlacePasses out k c r m p
  unfolding ask_place
  place_passes (Place.output o) line h e = offset_fits k c out line o h e
  place_passes (Place.region d o) line h e = (h.0, offset_fits k c (m d) line o h.1 e)

  place_asked : (p : Place) (line : ℕ) → PlacePasses out k c r m p → ask_place out c m line p ≡ none
  unfolding ask_place
  place_asked (Place.output o) line h = offset_asked k c out line o h
  place_asked (Place.region d o) line h = offset_asked k c (m d) line o h.1

-- a range as k + 1 counters is one as suc k
more : (P : ℕ → Type 0) (k : ℕ) → P (k + 1) → P (suc k)
more P k h = subst P (add-one k) h

module _ (ins : List ℕ) (out : ℕ) where
  pub command_passes : (c : Command) (ns rs : List ℕ) (line : ℕ) → CommandInRange (length ins) (length ns) (length rs) c
      → ask_command ins out ns rs line c ≡ none → CommandPasses ins out ns rs c
  unfolding ask_command ask_set CommandPasses
  command_passes (Command.assignment p v) ns rs line h e =
      let g = none_first (ask_place out (counter_bound ns) (entry rs) (line + 1) p) _ e in (
        place_passes out (length ns) (counter_bound ns) (length rs) (entry rs) p (line + 1) h.0 g.0,
        value_passes ins (length ns) (counter_bound ns) (length rs) (entry rs) v _ h.1 g.1,
      )
  command_passes (seq c d) ns rs line h e =
      let g = none_first (ask_command ins out ns rs (line + 1) c) _ e in
      (command_passes c ns rs (line + 1) h.0 g.0, command_passes d ns rs _ h.1 g.1)
  command_passes (loop kind n b) ns rs line h e = (
    h.0,
    omega (arith, h.1),
    command_passes b (n ∷ ns) rs (line + 1) (more (λ (k : ℕ). CommandInRange (length ins) k (length rs) b) (length ns) h.2) e,
  )
  command_passes (new n b) ns rs line h e = (
    h.0,
    omega (arith, h.1),
    command_passes b ns (n ∷ rs) (line + 1) (more (λ (r : ℕ). CommandInRange (length ins) (length ns) r b) (length rs) h.2) e,
  )

  pub command_asked : (c : Command) (ns rs : List ℕ) (line : ℕ) → CommandPasses ins out ns rs c → ask_command ins out ns rs line c ≡ none
  unfolding ask_command ask_set CommandPasses
  command_asked (Command.assignment p v) ns rs line h =
      none_both (ask_place out (counter_bound ns) (entry rs) (line + 1) p) _
      (place_asked out (length ns) (counter_bound ns) (length rs) (entry rs) p (line + 1) h.0)
      (value_asked ins (length ns) (counter_bound ns) (length rs) (entry rs) v _ h.1)
  command_asked (seq c d) ns rs line h =
      none_both (ask_command ins out ns rs (line + 1) c) _ (command_asked c ns rs (line + 1) h.0) (command_asked d ns rs _ h.1)
  command_asked (loop kind n b) ns rs line h = command_asked b (n ∷ ns) rs (line + 1) h.2
  command_asked (new n b) ns rs line h = command_asked b ns (n ∷ rs) (line + 1) h.2

-- ---- loops that pass are in range

offset_in_range : (k : ℕ) (c : ℕ → ℕ) (o : Offset) → OffsetPasses k c o → OffsetInRange k o
offset_in_range k c (Offset.literal v) h = h
offset_in_range k c (Offset.counter d) h = h.0
offset_in_range k c (plus x y) h = (offset_in_range k c x h.0, offset_in_range k c y h.1)
offset_in_range k c (times n x) h = (h.1, offset_in_range k c x h.0)
offset_in_range k c (over n x) h = (h.1, offset_in_range k c x h.0)
offset_in_range k c (rest n x) h = (h.1, offset_in_range k c x h.0)

value_in_range : (ins : List ℕ) (k : ℕ) (c : ℕ → ℕ) (r : ℕ) (m : ℕ → ℕ) (v : Value) → ValuePasses ins k c r m v → ValueInRange (length ins) k r v
value_in_range ins k c r m (Value.input j o) h = (h.0, offset_in_range k c o h.1.0)
value_in_range ins k c r m (Value.region d o) h = (h.0, offset_in_range k c o h.1.0)
value_in_range ins k c r m (Value.literal z) h = tt
value_in_range ins k c r m (Value.negate v) h = value_in_range ins k c r m v h
value_in_range ins k c r m (Value.operation o v w) h = (value_in_range ins k c r m v h.0, value_in_range ins k c r m w h.1)

place_in_range : (out k : ℕ) (c : ℕ → ℕ) (r : ℕ) (m : ℕ → ℕ) (p : Place) → PlacePasses out k c r m p → PlaceInRange k r p
place_in_range out k c r m (Place.output o) h = offset_in_range k c o h.0
place_in_range out k c r m (Place.region d o) h = (h.0, offset_in_range k c o h.1.0)

fewer : (P : ℕ → Type 0) (k : ℕ) → P (suc k) → P (k + 1)
fewer P k h = subst P (sym (add-one k)) h

command_in_range : (ins : List ℕ) (out : ℕ) (c : Command) (ns rs : List ℕ) → CommandPasses ins out ns rs c
    → CommandInRange (length ins) (length ns) (length rs) c
unfolding CommandPasses
command_in_range ins out (Command.assignment p v) ns rs h = (
  place_in_range out (length ns) (counter_bound ns) (length rs) (entry rs) p h.0,
  value_in_range ins (length ns) (counter_bound ns) (length rs) (entry rs) v h.1,
)
command_in_range ins out (seq c d) ns rs h = (command_in_range ins out c ns rs h.0, command_in_range ins out d ns rs h.1)
command_in_range ins out (loop kind n b) ns rs h = (
  h.0,
  omega (arith, h.1),
  fewer (λ (k : ℕ). CommandInRange (length ins) k (length rs) b) (length ns) (command_in_range ins out b (n ∷ ns) rs h.2),
)
command_in_range ins out (new n b) ns rs h = (
  h.0,
  omega (arith, h.1),
  fewer (λ (r : ℕ). CommandInRange (length ins) (length ns) r b) (length rs) (command_in_range ins out b ns (n ∷ rs) h.2),
)

-- ---- whole loops

all_counts : (l : List ℕ) → ((k : ℕ) → k < length l → IsCount (entry l k)) → AllCounts l
all_counts [] h = tt
all_counts (n ∷ l) h = (h 0 (omega arith), all_counts l (λ k g. h (suc k) (omega arith)))

each_count : (l : List ℕ) → AllCounts l → (k : ℕ) → k < length l → IsCount (entry l k)
each_count [] h k g = absurd (omega arith)
each_count (n ∷ l) h zero g = h.0
each_count (n ∷ l) h (suc k) g = each_count l h.1 k (omega arith)

pub loops_pass : (L : Loops) → LoopsInRange L → ask_bounds L ≡ none → LoopsPass L
unfolding ask_bounds
loops_pass L h e = record {
  within = record {
    inputs_few = h.inputs_few;
    input_cells = each_count L.inputs h.input_cells;
    output_cells = h.output_cells;
    passes = command_passes L.inputs L.output L.command [] [] _ h.command e;
  };
  apart = h.apart;
}

module _ (L : Loops) (h : LoopsWithin L) where
  pub within_cells : AllCounts L.inputs
  within_cells = all_counts L.inputs h.input_cells

  pub within_command : CommandInRange (length L.inputs) 0 0 L.command
  within_command = command_in_range L.inputs L.output L.command [] [] h.passes

pub pass_loops : (L : Loops) → LoopsPass L → LoopsInRange L × (ask_bounds L ≡ none)
unfolding ask_bounds
pass_loops L h = (
  record {
    inputs_few = h.within.inputs_few;
    input_cells = within_cells L h.within;
    output_cells = h.within.output_cells;
    command = within_command L h.within;
    apart = h.apart;
  },
  command_asked L.inputs L.output L.command [] [] _ h.within.passes,
)
