-- The proofs of what `Theorems` states. A reader need not believe any of it.

-- Any loops: steps that change places, and mixings that come to the forward run
pub mod Independence
pub mod Mixings
-- The orders of rounds, and what cores can do
pub mod OrdersMix
pub mod CoresMix
-- Lanes as `par`
pub mod LanesAsPar
-- Translated loops have no races
pub mod ReadsOnly
pub mod Orderly
pub mod OrderlyClaims
pub mod OrderlyParts
pub mod OrderlyMaps
pub mod OrderlyReductions
pub mod OrderlyTerms
-- The mixings, listed
pub mod AllMixings
