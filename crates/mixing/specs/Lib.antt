-- Cores that are halfway through a round: [9.12] to [9.14]. What a mixing of the steps of loops is, and that every mixing of a plan's
-- loops leaves the whole store as the forward run does. Numbers in brackets, here and in every file, are those of the rules in
-- docs/REQUIREMENTS.md.

-- The definitions
pub mod Mixing
pub mod Cores
pub mod Races

-- Their laws, what is proved, and all mixings of some loops, computed, stand in proofs/.
