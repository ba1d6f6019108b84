-- The laws of writing and using a term over its rows. A reader need not believe any of it.

-- Terms by their kind
pub mod Words
pub mod Kinds
-- What the calls are given
pub mod Variables
pub mod Columns
pub mod Operands
pub mod Calls
pub mod Ranges
-- What they give, one law for each way out
pub mod Leaves
pub mod Uses
pub mod Reductions
pub mod Writes
