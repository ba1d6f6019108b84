-- The interpreter of loops over rows: [9.1] to [9.7], in the orders of [9.10].

-- The definitions
pub mod Orders
-- What the contracts of parts say besides
pub mod Exact
pub mod Control
pub mod Shifts
pub mod Frames
pub mod Interpreter
pub mod OpenLoops
