-- Question 9 put to loops: [10.9].

-- The definitions
pub mod Bounds
-- Their laws
pub mod Laws
