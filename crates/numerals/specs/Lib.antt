-- How a number is written: [1.4].

-- The definitions
pub mod Numerals
-- What the contracts of parts say besides
pub mod Magnitudes
-- Their laws, and computed examples
pub mod DigitLaws
pub mod Laws
pub mod Examples
