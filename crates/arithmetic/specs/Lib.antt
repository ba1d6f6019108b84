-- The arithmetic of cells: [4.1] to [4.5].
-- Numbers in brackets, here and in every file, are those of the rules in docs/REQUIREMENTS.md.

-- The definitions
pub mod Arithmetic

-- Their laws, and computed examples, stand in proofs/.
