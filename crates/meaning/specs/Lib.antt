-- What a plan is worth, what loops do, and that they agree: parts 3 and 5 to 9, and of part 10 what loops and plans must pass.
-- Numbers in brackets, here and in every file, are those of the rules in docs/REQUIREMENTS.md.

-- The definitions
pub mod Types
pub mod Terms
pub mod Typing
pub mod Numbers
pub mod Sequence
pub mod Values
pub mod Shapes
pub mod Loops
pub mod Layout
pub mod Runs
pub mod Arbiters
pub mod NamedOrders
pub mod AsPar
pub mod Steps
pub mod Paths
pub mod Expressions
pub mod Offsets
pub mod Translation
pub mod Counts
pub mod Rows
pub mod Limits
pub mod Demand3

-- Their laws, and what is proved, stand in proofs/.
