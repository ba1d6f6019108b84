-- The table of words, and looking a word up: [2.1] to [2.3], [1.3], [17.1].
-- Numbers in brackets, here and in every file, are those of the rules in docs/REQUIREMENTS.md.

-- The definitions
pub mod Kinds
pub mod Words
pub mod Groups
pub mod Good
-- What the contract of the search says
pub mod Promises
-- What the contracts of parts say besides
pub mod Packed
pub mod Tables

-- Their laws stand in proofs/.
