-- What loops must pass and the limits of a plan, [10.3], [10.5], [10.6], [10.8], [10.9] and [18.15]; and what it is to touch only
-- cells of the store, [9.9]. Definitions only; assumes nothing.
use Rattle.std.specs.Prelude.{◌≡◌, Bool, true, false, ◌&&◌, ◌⊎◌, List, [], ◌∷◌, ℕ, suc, ◌+◌, ◌*◌, ◌-◌, ◌/◌, ◌≤◌, ◌<◌, min, length, get_or}
use Rattle.meaning.specs.Types.{DataType, cells, levels, element, number, array, vector}
use Rattle.meaning.specs.Terms.{LoopKind, Term, Plan}
use Rattle.meaning.specs.Typing.{type_of}
use Rattle.meaning.specs.Loops.{Offset, Place, Value, Command, Loops, plus, times, over, rest, seq, loop, new}
use Rattle.meaning.specs.Layout.{first_room, second_room, round_room, region_room, body_room}
use Rattle.meaning.specs.Runs.{offset_at, entry, Environment, with_counter, with_region, target}
use Rattle.meaning.specs.Rows.{plan_rows}

-- Loops

-- [13.7] The numbers that count rounds, cells and elements.
abbrev pub IsCount : ℕ → Type 0
IsCount n = (1 ≤ n) × (n ≤ 4096)

-- [13.19] The widths of vectors.
abbrev pub IsWidth : ℕ → Type 0
IsWidth w = (w ≡ 2) ⊎ (w ≡ 4) ⊎ (w ≡ 8) ⊎ (w ≡ 16)

-- [13.7] How many rounds a loop may have; [13.19] a `lanes` has a width's.
abbrev pub RoundsInRange : LoopKind → ℕ → Type 0
RoundsInRange LoopKind.parallel n = IsCount n
RoundsInRange LoopKind.sequential n = IsCount n
RoundsInRange LoopKind.lanes n = IsWidth n

-- [10.20] The bound of an offset; `c` are the counters' bounds.
abbrev pub bound : (ℕ → ℕ) → Offset → ℕ
bound c (Offset.literal v) = v
bound c (Offset.counter d) = c d
bound c (plus x y) = bound c x + bound c y
bound c (times n x) = n * bound c x
bound c (over n x) = bound c x / n
bound c (rest n x) = min (bound c x) (n - 1)

-- [10.20] the bounds of the counters of loops with these numbers of rounds, innermost first
abbrev pub counter_bound : List ℕ → ℕ → ℕ
counter_bound ns d = entry ns d - 1

-- Each row of an offset, k counters being in force: [10.5] its number is in range, [13.7] or [13.8], or names a counter in force;
-- [10.9] its bound is at most 65,535 [13.12].
abbrev pub OffsetPasses : ℕ → (ℕ → ℕ) → Offset → Type 0
OffsetPasses k c (Offset.literal v) = v ≤ 4095
OffsetPasses k c (Offset.counter d) = (d < k) × (c d ≤ 65535)
OffsetPasses k c (plus x y) = OffsetPasses k c x × OffsetPasses k c y × (bound c (plus x y) ≤ 65535)
OffsetPasses k c (times n x) = OffsetPasses k c x × IsCount n × (bound c (times n x) ≤ 65535)
OffsetPasses k c (over n x) = OffsetPasses k c x × IsCount n × (bound c (over n x) ≤ 65535)
OffsetPasses k c (rest n x) = OffsetPasses k c x × IsCount n × (bound c (rest n x) ≤ 65535)

-- [10.9] And the bound of the whole is below the n cells of what it goes into.
abbrev pub OffsetFits : ℕ → (ℕ → ℕ) → Offset → ℕ → Type 0
OffsetFits k c o n = OffsetPasses k c o × (bound c o < n)

-- [10.5] [10.9] A value, and a place: the inputs' cells, or the output's; k counters with bounds c and r regions with cells m in force.
abbrev pub ValuePasses : List ℕ → ℕ → (ℕ → ℕ) → ℕ → (ℕ → ℕ) → Value → Type 0
ValuePasses ins k c r m (Value.input j o) = (j < length ins) × OffsetFits k c o (entry ins j)
ValuePasses ins k c r m (Value.region d o) = (d < r) × OffsetFits k c o (m d)
ValuePasses ins k c r m (Value.literal v) = Unit {0}
ValuePasses ins k c r m (Value.negate v) = ValuePasses ins k c r m v
ValuePasses ins k c r m (Value.operation o v w) = ValuePasses ins k c r m v × ValuePasses ins k c r m w

abbrev pub PlacePasses : ℕ → ℕ → (ℕ → ℕ) → ℕ → (ℕ → ℕ) → Place → Type 0
PlacePasses out k c r m (Place.output o) = OffsetFits k c o out
PlacePasses out k c r m (Place.region d o) = (d < r) × OffsetFits k c o (m d)

-- A command, under loops of ns rounds and regions of rs cells, innermost first: [10.5] and [10.9] as above, and [10.6] at most 32
-- counters [13.10] and 256 regions [13.11].
unfoldable pub CommandPasses : List ℕ → ℕ → List ℕ → List ℕ → Command → Type 0
CommandPasses ins out ns rs (Command.assignment p v) =
    PlacePasses out (length ns) (counter_bound ns) (length rs) (entry rs) p
    × ValuePasses ins (length ns) (counter_bound ns) (length rs) (entry rs) v
CommandPasses ins out ns rs (seq c d) = CommandPasses ins out ns rs c × CommandPasses ins out ns rs d
CommandPasses ins out ns rs (loop kind n b) =
    RoundsInRange kind n × (suc (length ns) ≤ 32) × CommandPasses ins out (n ∷ ns) rs b
CommandPasses ins out ns rs (new c b) =
    IsCount c × (suc (length rs) ≤ 256) × CommandPasses ins out ns (c ∷ rs) b

-- [18.15] Whether no `lanes` stands in a command, at any depth; and whether none stands inside another, which question 18 asks.
abbrev pub no_lanes : Command → Bool
no_lanes (Command.assignment p v) = true
no_lanes (seq c d) = no_lanes c && no_lanes d
no_lanes (loop LoopKind.parallel n b) = no_lanes b
no_lanes (loop LoopKind.sequential n b) = no_lanes b
no_lanes (loop LoopKind.lanes n b) = false
no_lanes (new c b) = no_lanes b

abbrev pub lanes_apart : Command → Bool
lanes_apart (Command.assignment p v) = true
lanes_apart (seq c d) = lanes_apart c && lanes_apart d
lanes_apart (loop LoopKind.parallel n b) = lanes_apart b
lanes_apart (loop LoopKind.sequential n b) = lanes_apart b
lanes_apart (loop LoopKind.lanes n b) = no_lanes b
lanes_apart (new c b) = lanes_apart b

-- [10.5] The number of inputs [13.6] and their and the output's cells [13.7]; then the command.
pub record LoopsWithin (L : Loops) : Type 0 where
  pub inputs_few : length L.inputs ≤ 8
  pub input_cells : (k : ℕ) → k < length L.inputs → IsCount (entry L.inputs k)
  pub output_cells : IsCount L.output
  pub passes : CommandPasses L.inputs L.output [] [] L.command

-- All that, and [18.15] question 18.
pub record LoopsPass (L : Loops) : Type 0 where
  pub within : LoopsWithin L
  pub apart : lanes_apart L.command ≡ true

-- Plans

-- [10.8] A type and every type in it: [13.13] the cells, [13.7] the lengths of arrays, and [13.19] the widths of vectors.
abbrev pub CellsWithin : DataType → Type 0
CellsWithin number = Unit {0}
CellsWithin (array n t) = (1 ≤ n) × (n * cells t ≤ 4096) × CellsWithin t
CellsWithin (DataType.pair s t) = (cells s + cells t ≤ 4096) × CellsWithin s × CellsWithin t
CellsWithin (vector w) = IsWidth w

-- [10.8] And [13.14] the levels.
abbrev pub TypeWithin : DataType → Type 0
TypeWithin t = CellsWithin t × (levels t ≤ 8)

-- Each row of a term: [10.8] its type, and [10.6] at most 16 variables [13.9]. (The type of a number is within the limits.)
abbrev pub TermWithin : List DataType → List DataType → Term → Type 0
TermWithin I Γ (Term.input k) = TypeWithin (type_of I Γ (Term.input k))
TermWithin I Γ (Term.variable d) = TypeWithin (type_of I Γ (Term.variable d))
TermWithin I Γ (Term.literal v) = Unit {0}
TermWithin I Γ (Term.negate e) = TermWithin I Γ e
TermWithin I Γ (Term.operation o e f) = TermWithin I Γ e × TermWithin I Γ f
TermWithin I Γ (Term.map kind a b) =
    TypeWithin (type_of I Γ (Term.map kind a b))
    × TermWithin I Γ a
    × TermWithin I (element (type_of I Γ a) ∷ Γ) b
    × (suc (length Γ) ≤ 16)
TermWithin I Γ (Term.reduce z a b) =
    TypeWithin (type_of I Γ z)
    × TermWithin I Γ z
    × TermWithin I Γ a
    × TermWithin I (type_of I Γ z ∷ element (type_of I Γ a) ∷ Γ) b
    × (suc (suc (length Γ)) ≤ 16)
TermWithin I Γ (Term.zip a b) = TypeWithin (type_of I Γ (Term.zip a b)) × TermWithin I Γ a × TermWithin I Γ b
TermWithin I Γ (Term.pair a b) = TypeWithin (type_of I Γ (Term.pair a b)) × TermWithin I Γ a × TermWithin I Γ b
TermWithin I Γ (Term.split series n e) = TypeWithin (type_of I Γ (Term.split series n e)) × TermWithin I Γ e
TermWithin I Γ (Term.join series e) = TypeWithin (type_of I Γ (Term.join series e)) × TermWithin I Γ e
TermWithin I Γ (Term.first e) = TypeWithin (type_of I Γ (Term.first e)) × TermWithin I Γ e
TermWithin I Γ (Term.second e) = TypeWithin (type_of I Γ (Term.second e)) × TermWithin I Γ e
TermWithin I Γ (Term.index series k e) = TypeWithin (type_of I Γ (Term.index series k e)) × TermWithin I Γ e

-- A whole plan: [10.3] its lines [13.4], [10.5] its inputs [13.6], and [10.8] the types of inputs and term.
pub record PlanWithin (P : Plan) : Type 0 where
  pub rows_few : length (plan_rows P) ≤ 256
  pub inputs_few : length P.inputs ≤ 8
  pub input_types : (k : ℕ) → k < length P.inputs → TypeWithin (get_or P.inputs k number)
  pub term_within : TermWithin P.inputs [] P.term

-- Which cells are touched. Every cell that the readings of a value read is one of R.
abbrev pub ReadsIn : (ℕ → Type 0) → List ℕ → (ℕ → ℕ) → (ℕ → ℕ) → Value → Type 0
ReadsIn R ins c r (Value.input k o) = R (entry ins k + offset_at c o)
ReadsIn R ins c r (Value.region d o) = R (r d + offset_at c o)
ReadsIn R ins c r (Value.literal v) = Unit {0}
ReadsIn R ins c r (Value.negate v) = ReadsIn R ins c r v
ReadsIn R ins c r (Value.operation o v w) = ReadsIn R ins c r v × ReadsIn R ins c r w

-- Every cell that a run writes is one of W, and every cell that it reads one of R, in every round of every loop.
unfoldable pub Touches : (ℕ → Type 0) → (ℕ → Type 0) → Command → Environment → ℕ → Type 0
Touches W R (Command.assignment p v) ρ a =
    W (target ρ p) × ReadsIn R ρ.input_bases (entry ρ.counters) (entry ρ.regions) v
Touches W R (seq c d) ρ a = Touches W R c ρ (first_room a c d) × Touches W R d ρ (second_room a c d)
Touches W R (loop kind n b) ρ a = (i : ℕ) → i < n → Touches W R b (with_counter i ρ) (round_room a kind n b i)
Touches W R (new c b) ρ a = Touches W R b (with_region (region_room a c b) ρ) (body_room a c b)

-- [9.9] Every cell that a run reads or writes is below L.
abbrev pub TouchesBelow : ℕ → Command → Environment → ℕ → Type 0
TouchesBelow L c ρ a = Touches (λ x. x < L) (λ x. x < L) c ρ a
