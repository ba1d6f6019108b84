-- The translation of a plan's text: [6.1], [10.1] to [10.8], [10.10] to [10.12], and [18.15].

-- The definitions
pub mod Entry
pub mod Accepted
pub mod Questions
-- What the contracts of parts say besides
pub mod Making
-- Their laws, and what is proved
pub mod Laws
pub mod Theorems
-- The contracts of the entries
pub mod Promises
