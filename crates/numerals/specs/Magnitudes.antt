-- What the private function `read_digits` answers. Definitions only; assumes nothing.
use Rattle.std.specs.Prelude.{cond, ℕ, leb, Some, None, Option}

-- A number, if it is at most `most`.
abbrev pub at_most : ℕ → Option ℕ → Option ℕ
at_most most None = None
at_most most (Some n) = cond (leb n most) (Some n) None
