-- What the programs read and print: [11.2], [16.8].
-- Numbers in brackets, here and in every file, are those of the rules in docs/REQUIREMENTS.md.

-- The definitions
pub mod Files
-- Their laws
pub mod Laws
