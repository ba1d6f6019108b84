-- What a table of types stands for: the types of [3.1], each named by its place in the table. Definitions only; assumes nothing.
use Rattle.std.specs.Prelude.{◌≡◌, List, [], ◌∷◌, ◌++◌, ℕ, zero, suc, ◌≤◌, ◌<◌, length, get_or, Option, Some, None}
use Rattle.meaning.specs.Types.{DataType, number, array, vector, cells, levels}
use Rattle.meaning.specs.Limits.{TypeWithin}
use Rattle.type_table.specs.Nodes.{kind_in, levels_in, cells_in, left_in, right_in}
use Rattle.type_table.specs.declared.ArrayShape.{ArrayShape}
use Rattle.type_table.specs.declared.PairShape.{PairShape}
use Rattle.type_table.specs.declared.Shape.{Shape}
use Rattle.type_table.specs.declared.Shape.TheVariants.{Number, Array, Pair, Vector}

-- [3.1] The type of a node by its kind, from its left field and the types at its two fields' places
abbrev pub by_kind : ℕ → ℕ → DataType → DataType → DataType
by_kind zero n s t = number
by_kind (suc zero) n s t = array n t
by_kind (suc (suc zero)) n s t = DataType.pair s t
by_kind (suc (suc (suc k))) n s t = vector n

-- A node over the types before it. A place that is not before it stands for `number`.
abbrev pub node_type : List DataType → ℕ → DataType
node_type before w = by_kind (kind_in w) (left_in w) (get_or before (left_in w) number) (get_or before (right_in w) number)

-- the types of a table, each from those before it
unfoldable pub types_from : List DataType → List ℕ → List DataType
types_from before [] = before
types_from before (w ∷ ws) = types_from (before ++ (node_type before w ∷ [])) ws

abbrev pub types_of : List ℕ → List DataType
types_of T = types_from [] T

-- the type at place i
abbrev pub type_at : List ℕ → ℕ → DataType
type_at T i = get_or (types_of T) i number

-- A node's parts stand before it; a vector is not the first type.
abbrev pub PartsBefore : ℕ → ℕ → Type 0
PartsBefore w i = (kind_in w ≡ 1 → right_in w < i) × (kind_in w ≡ 2 → (left_in w < i) × (right_in w < i)) × (3 ≤ kind_in w → 0 < i)

-- The node at place i says its type's cells [3.2] and levels [3.3], and its type keeps the limits of [10.8]: [13.13], [13.14].
pub record SoundAt (T : List ℕ) (i : ℕ) : Type 0 where
  pub parts : PartsBefore (get_or T i 0) i
  pub its_cells : cells_in (get_or T i 0) ≡ cells (type_at T i)
  pub its_levels : levels_in (get_or T i 0) ≡ levels (type_at T i)
  pub within : TypeWithin (type_at T i)

-- The first m nodes of a table are sound, and few enough that a field holds their places.
pub record Sound (T : List ℕ) (m : ℕ) : Type 0 where
  pub room : m ≤ length T
  pub few : m ≤ 65536
  pub each : (i : ℕ) → i < m → SoundAt T i

-- T' is T with the type t put at place m: the types before it are as they were.
pub record Put (T T' : List ℕ) (m : ℕ) (t : DataType) : Type 0 where
  pub put : type_at T' m ≡ t
  pub kept : (i : ℕ) → i < m → type_at T' i ≡ type_at T i
  pub sound : Sound T' (suc m)
  pub size : length T' ≡ length T

-- What is told of the type at place i when it is asked whether it is an array, a pair, or a vector.
abbrev pub ArrayTold : List ℕ → ℕ → Option ArrayShape → Type 0
ArrayTold T i (Some a) = (type_at T i ≡ array a.length (type_at T a.element)) × (a.element < i)
ArrayTold T i None = (n : ℕ) (t : DataType) → type_at T i ≡ array n t → ⊥

abbrev pub PairTold : List ℕ → ℕ → Option PairShape → Type 0
PairTold T i (Some p) = (type_at T i ≡ DataType.pair (type_at T p.first) (type_at T p.second)) × (p.first < i) × (p.second < i)
PairTold T i None = (s t : DataType) → type_at T i ≡ DataType.pair s t → ⊥

abbrev pub VectorTold : List ℕ → ℕ → Option ℕ → Type 0
VectorTold T i (Some n) = (type_at T i ≡ vector n) × (0 < i)
VectorTold T i None = (n : ℕ) → type_at T i ≡ vector n → ⊥

-- What is told of it when it is asked what it is made of.
abbrev pub ShapeTold : List ℕ → ℕ → Shape → Type 0
ShapeTold T i Number = type_at T i ≡ number
ShapeTold T i (Array a) = ArrayTold T i (Some a)
ShapeTold T i (Pair p) = PairTold T i (Some p)
ShapeTold T i (Vector w) = VectorTold T i (Some w)
