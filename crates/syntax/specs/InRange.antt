-- Trees whose numbers are in range and whose names are in force: [10.5] and [10.6], put to a tree. Definitions only; assumes nothing.
use Rattle.std.specs.Prelude.{◌≡◌, true, List, [], ◌∷◌, ℕ, ◌+◌, ◌≤◌, ◌<◌, length}
use Rattle.meaning.specs.Types.{DataType, Series, number, array, vector}
use Rattle.meaning.specs.Terms.{Term, Plan}
use Rattle.meaning.specs.Loops.{Offset, Place, Value, Command, Loops, plus, times, over, rest, seq, loop, new}
use Rattle.meaning.specs.Limits.{IsCount, IsWidth, RoundsInRange, lanes_apart}

-- ---- plans

-- [13.7] the lengths of a type's arrays, [13.19] and the widths of its vectors
abbrev pub TypeInRange : DataType → Type 0
TypeInRange number = Unit {0}
TypeInRange (array n t) = IsCount n × TypeInRange t
TypeInRange (DataType.pair s t) = TypeInRange s × TypeInRange t
TypeInRange (vector w) = IsWidth w

abbrev pub AllTypesInRange : List DataType → Type 0
AllTypesInRange [] = Unit {0}
AllTypesInRange (t ∷ ts) = TypeInRange t × AllTypesInRange ts

-- [13.7] the length of a group, [13.19] or the width of a vector; [13.8] an element, [13.20] or a lane
abbrev pub GroupInRange : Series → ℕ → Type 0
GroupInRange Series.arrays n = IsCount n
GroupInRange Series.vectors n = IsWidth n

abbrev pub last_element : Series → ℕ
last_element Series.arrays = 4095
last_element Series.vectors = 15

-- K inputs and v variables are in force: [10.5] `in` and `var` name one of them, and [13.7] and [13.8] bound `split` and `idx`; [10.6]
-- at most 16 variables [13.9].
abbrev pub TermInRange : ℕ → ℕ → Term → Type 0
TermInRange K v (Term.input k) = k < K
TermInRange K v (Term.variable d) = d < v
TermInRange K v (Term.literal z) = Unit {0}
TermInRange K v (Term.negate e) = TermInRange K v e
TermInRange K v (Term.operation o e f) = TermInRange K v e × TermInRange K v f
TermInRange K v (Term.map kind a b) = (v + 1 ≤ 16) × TermInRange K v a × TermInRange K (v + 1) b
TermInRange K v (Term.reduce z a b) = (v + 2 ≤ 16) × TermInRange K v z × TermInRange K v a × TermInRange K (v + 2) b
TermInRange K v (Term.zip a b) = TermInRange K v a × TermInRange K v b
TermInRange K v (Term.pair a b) = TermInRange K v a × TermInRange K v b
TermInRange K v (Term.split series n e) = GroupInRange series n × TermInRange K v e
TermInRange K v (Term.join series e) = TermInRange K v e
TermInRange K v (Term.first e) = TermInRange K v e
TermInRange K v (Term.second e) = TermInRange K v e
TermInRange K v (Term.index series k e) = (k ≤ last_element series) × TermInRange K v e

pub record PlanInRange (P : Plan) : Type 0 where
  pub inputs_few : length P.inputs ≤ 8
  pub types : AllTypesInRange P.inputs
  pub term : TermInRange (length P.inputs) 0 P.term

-- ---- loops

-- k counters are in force: [10.5] `ctr` names one of them, and [13.7] and [13.8] bound the other numbers
abbrev pub OffsetInRange : ℕ → Offset → Type 0
OffsetInRange k (Offset.literal v) = v ≤ 4095
OffsetInRange k (Offset.counter d) = d < k
OffsetInRange k (plus x y) = OffsetInRange k x × OffsetInRange k y
OffsetInRange k (times n x) = IsCount n × OffsetInRange k x
OffsetInRange k (over n x) = IsCount n × OffsetInRange k x
OffsetInRange k (rest n x) = IsCount n × OffsetInRange k x

-- and r regions
abbrev pub PlaceInRange : ℕ → ℕ → Place → Type 0
PlaceInRange k r (Place.output o) = OffsetInRange k o
PlaceInRange k r (Place.region d o) = (d < r) × OffsetInRange k o

-- and K inputs
abbrev pub ValueInRange : ℕ → ℕ → ℕ → Value → Type 0
ValueInRange K k r (Value.input j o) = (j < K) × OffsetInRange k o
ValueInRange K k r (Value.region d o) = (d < r) × OffsetInRange k o
ValueInRange K k r (Value.literal z) = Unit {0}
ValueInRange K k r (Value.negate v) = ValueInRange K k r v
ValueInRange K k r (Value.operation o v w) = ValueInRange K k r v × ValueInRange K k r w

-- [10.6] at most 32 counters [13.10] and 256 regions [13.11]
abbrev pub CommandInRange : ℕ → ℕ → ℕ → Command → Type 0
CommandInRange K k r (Command.assignment p v) = PlaceInRange k r p × ValueInRange K k r v
CommandInRange K k r (seq c d) = CommandInRange K k r c × CommandInRange K k r d
CommandInRange K k r (loop kind n b) = RoundsInRange kind n × (k + 1 ≤ 32) × CommandInRange K (k + 1) r b
CommandInRange K k r (new n b) = IsCount n × (r + 1 ≤ 256) × CommandInRange K k (r + 1) b

abbrev pub AllCounts : List ℕ → Type 0
AllCounts [] = Unit {0}
AllCounts (n ∷ ns) = IsCount n × AllCounts ns

pub record LoopsInRange (L : Loops) : Type 0 where
  pub inputs_few : length L.inputs ≤ 8
  pub input_cells : AllCounts L.inputs
  pub output_cells : IsCount L.output
  pub command : CommandInRange (length L.inputs) 0 0 L.command
  pub apart : lanes_apart L.command ≡ true
