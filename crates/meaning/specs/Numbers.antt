-- The numbers that plans and loops are about. Value, runs and theorem are over any such numbers, and use no law of
-- them. Definitions only; assumes nothing.
use Rattle.std.specs.Prelude.{ℤ}
use Rattle.arithmetic.specs.Arithmetic.{Operation, operate, negation}

pub record NumberDomain : Type 1 where
  pub Number : Type 0
  pub literal : ℤ → Number
  pub negate : Number → Number
  pub operate : Operation → Number → Number → Number

-- [4.1] to [4.5] The numbers of cells, and their arithmetic.
abbrev pub clamped32 : NumberDomain
clamped32 = record { Number = ℤ; literal = λ z. z; negate = negation; operate = operate }
