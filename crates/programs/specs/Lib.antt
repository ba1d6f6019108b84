-- What the two programs print: [11.1], [11.5] to [11.9].

-- The definitions
pub mod Printed
pub mod Runner
-- What the contracts of parts say besides
pub mod Parts
-- Their laws
pub mod Laws
-- The contracts of the entries
pub mod Promises
