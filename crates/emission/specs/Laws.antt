-- The laws of the definitions, as the code needs them. A reader need not believe any of it.

-- Rows put into a table
pub mod Table
pub mod Filled
-- The table of references
pub mod Nodes
pub mod Growth
pub mod Readings
-- What has elements
pub mod Elements
-- Paths and offsets
pub mod PathSteps
pub mod Indices
pub mod Operands
pub mod Offsets
-- Values, places and assignments
pub mod Values
pub mod Places
pub mod Assign
