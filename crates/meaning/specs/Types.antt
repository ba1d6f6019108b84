-- Types of plans, their cells and levels: [3.1] to [3.3], [3.5], [18.1]; and which of them is a number. The paper calls them data types.
-- Definitions only; assumes nothing.
use Rattle.std.specs.Prelude.{Bool, true, false, ℕ, suc, ◌+◌, ◌*◌, max}

-- [3.1] A number, an array of some length, a pair, or [18.1] a vector of some width: numbers in its lanes, and no array. [3.5] Types that
-- are built differently are different.
pub data DataType : Type 0 where
  number : DataType
  array : ℕ → DataType → DataType
  pair : DataType → DataType → DataType
  vector : ℕ → DataType

-- Whether it is a number, and neither an array, be it of one element, nor a pair, nor a vector.
abbrev pub is_number : DataType → Bool
is_number number = true
is_number (array n t) = false
is_number (DataType.pair s t) = false
is_number (vector w) = false

-- [3.2] How many cells a value of the type takes; [18.1] a vector has one for each lane.
abbrev pub cells : DataType → ℕ
cells number = 1
cells (array n t) = n * cells t
cells (DataType.pair s t) = cells s + cells t
cells (vector w) = w

-- [3.3] How many levels deep the type is built.
abbrev pub levels : DataType → ℕ
levels number = 1
levels (array n t) = suc (levels t)
levels (DataType.pair s t) = suc (max (levels s) (levels t))
levels (vector w) = 2

-- The parts of a type: how many elements an array or a vector has, and of which type; a pair's two types. A type that
-- has no such part answers 0 or `number`, and nobody asks: a well-typed term takes apart arrays, vectors and pairs only.
abbrev pub array_length : DataType → ℕ
array_length number = 0
array_length (array n t) = n
array_length (DataType.pair s t) = 0
array_length (vector w) = w

abbrev pub element : DataType → DataType
element number = number
element (array n t) = t
element (DataType.pair s t) = number
element (vector w) = number

abbrev pub first_type : DataType → DataType
first_type number = number
first_type (array n t) = number
first_type (DataType.pair s t) = s
first_type (vector w) = number

abbrev pub second_type : DataType → DataType
second_type number = number
second_type (array n t) = number
second_type (DataType.pair s t) = t
second_type (vector w) = number

-- [18.2] What has elements that are counted, and what a map, a `split`, a `join` and an `idx` are of: arrays, or vectors.
pub data Series : Type 0 where
  arrays vectors : Series

-- n elements of type t; a vector's are numbers
abbrev pub series_of : Series → ℕ → DataType → DataType
series_of Series.arrays n t = array n t
series_of Series.vectors n t = vector n
