-- Rows in the middle of a table. Definitions only; assumes nothing.
use Rattle.std.specs.Prelude.{List, ℕ, ◌+◌, ◌≤◌, ℤ, length, drop}
use Rattle.words.specs.Kinds.{Row}
use Rattle.syntax.specs.Standing.{Begins}

-- these rows stand in a table of 4,096 from row `at` on
pub record Stand (kinds : List ℕ) (numbers : List ℤ) (at : ℕ) (rows : List Row) : Type 0 where
  pub begins : Begins (drop at kinds) (drop at numbers) rows
  pub within : at + length rows ≤ 4096
