-- A words text, and the own words that it gives: [16.1], [16.2], [16.4] to [16.6]; the search among them: [17.3].
-- Numbers in brackets, here and in every file, are those of the rules in docs/REQUIREMENTS.md.

-- The definitions
pub mod OwnWords
pub mod Under
-- What the contracts say
pub mod Promises
-- Their laws
pub mod Laws
-- What follows of every table of words
pub mod Theorems
pub mod Examples
