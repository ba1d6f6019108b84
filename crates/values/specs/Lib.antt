-- The values file: [11.3], [11.4] and [10.15].

-- The definitions
pub mod Values
-- What the contracts of parts say besides
pub mod Stored
-- Their laws
pub mod Laws
-- The contracts of the entries
pub mod Promises
