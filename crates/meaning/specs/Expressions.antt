-- Expressions and acceptors, which are what the translation reads and where it writes: [6.2], Figure 3b of the paper as far as
-- [14.2] uses it. Definitions only; assumes nothing. Counters and regions are named by their level, 0 outermost, so that nothing is
-- renamed when a loop or a `new` is entered.
use Rattle.std.specs.Prelude.{ℕ, ℤ}
use Rattle.arithmetic.specs.Arithmetic.{Operation}
use Rattle.meaning.specs.Types.{DataType}
use Rattle.meaning.specs.Loops.{Offset}

-- [6.2] What a use hands on, to be read. [6.19] An input or a region lies in the store in a type of its own.
pub data Expression : Type 0 where
  input : ℕ → DataType → Expression
  region : ℕ → DataType → Expression
  literal : ℤ → Expression
  negate : Expression → Expression
  operation : Operation → Expression → Expression → Expression
  zip : Expression → Expression → Expression
  pair : Expression → Expression → Expression
  split : ℕ → Expression → Expression
  join : ℕ → Expression → Expression
  first : Expression → Expression
  second : Expression → Expression
  index : Expression → Offset → Expression

-- [6.2] Where a write goes. [6.9] `zip_first` and `zip_second` are the places of the operands of a `zip`; [6.10] `split n` and `join n`
-- that of the operand of a `split` or `join`, whose groups are n long.
pub data Acceptor : Type 0 where
  output : DataType → Acceptor
  region : ℕ → DataType → Acceptor
  index : Acceptor → Offset → Acceptor
  first : Acceptor → Acceptor
  second : Acceptor → Acceptor
  zip_first : Acceptor → Acceptor
  zip_second : Acceptor → Acceptor
  split : ℕ → Acceptor → Acceptor
  join : ℕ → Acceptor → Acceptor
