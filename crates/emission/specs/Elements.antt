-- What is read and assigned element by element: arrays, [18.2] and vectors, whose lanes are numbers. Definitions only; assumes nothing.
use Rattle.std.specs.Prelude.{List, ℕ, ◌<◌, Option, Some, None}
use Rattle.words.specs.Kinds.{word_par, word_lanes}
use Rattle.meaning.specs.Types.{DataType, number, array, vector}
use Rattle.type_table.specs.Table.{type_at}
use Rattle.emission.specs.declared.elements.Elements.{Elements}

-- [6.3] A type that has n elements of a type, and the word of the loop that assigns them: of an array `par`, [18.11] of a vector `lanes`.
pub data HasElements : DataType → ℕ → DataType → ℕ → Type 0 where
  of_array : (n : ℕ) (t : DataType) → HasElements (array n t) n t word_par
  of_vector : (n : ℕ) → HasElements (vector n) n number word_lanes

-- What is told of the type at place i when it is asked for its elements.
abbrev pub ElementsTold : List ℕ → ℕ → Option Elements → Type 0
ElementsTold T i (Some e) = HasElements (type_at T i) e.length (type_at T e.element) e.word × (e.element < i)
ElementsTold T i None = (n : ℕ) (t : DataType) (k : ℕ) → HasElements (type_at T i) n t k → ⊥
