-- Terms and plans as trees: [3.6] to [3.11]. Definitions only; assumes nothing.
use Rattle.std.specs.Prelude.{List, ℕ, ℤ}
use Rattle.arithmetic.specs.Arithmetic.{Operation}
use Rattle.meaning.specs.Types.{DataType, Series}

-- [3.9] A map is `mappar` or `mapseq`, [18.3] or `mapvec`, over the lanes of a vector. [3.13] A loop is `par` or `for`, [18.9] or `lanes`.
pub data LoopKind : Type 0 where
  parallel sequential lanes : LoopKind

-- what a map of this kind goes over
abbrev pub series_in : LoopKind → Series
series_in LoopKind.parallel = Series.arrays
series_in LoopKind.sequential = Series.arrays
series_in LoopKind.lanes = Series.vectors

-- [3.7] to [3.11], in that order. Inputs are numbered from 0, variables from 0 innermost. A `map` has an array and a body with one
-- more variable; a `reduce` a start, an array and a body with two more, 0 the total so far and 1 the element. [18.3] Of vectors a map by
-- lanes is `mapvec`, a `split` `asvec`, a `join` `asscal` and an `index` `at`.
pub data Term : Type 0 where
  input : ℕ → Term
  variable : ℕ → Term
  literal : ℤ → Term
  negate : Term → Term
  operation : Operation → Term → Term → Term
  map : LoopKind → Term → Term → Term
  reduce : Term → Term → Term → Term
  zip : Term → Term → Term
  pair : Term → Term → Term
  split : Series → ℕ → Term → Term
  join : Series → Term → Term
  first : Term → Term
  second : Term → Term
  index : Series → ℕ → Term → Term

-- [3.6] The types of the inputs, and one term.
pub record Plan : Type 0 where
  pub inputs : List DataType
  pub term : Term
