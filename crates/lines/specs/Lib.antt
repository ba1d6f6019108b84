-- A text to rows, and rows to a text: part 1, [10.1] to [10.3], and [10.12] where a table is lent.

-- The definitions
pub mod Reading
pub mod Lent
pub mod Printing

-- Their laws stand in proofs/.
