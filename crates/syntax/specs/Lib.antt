-- The walk over rows, and the tree whose rows they are: [1.7], [2.1], [10.4] to [10.6].
-- Numbers in brackets, here and in every file, are those of the rules in docs/REQUIREMENTS.md.

-- The definitions
pub mod Operands
pub mod Ranges
pub mod Names
pub mod Walk
pub mod InRange
pub mod Reading
-- What the contracts of parts, here and above, say besides
pub mod Standing
-- Laws, and what is proved
pub mod Laws
pub mod Theorems
