-- The check of loops: [10.9] and [10.11] after [10.1] to [10.6] and [18.15]; and what loops that pass do: [9.9].

-- The definitions
pub mod Checked
pub mod Check
-- Their laws, and what is proved
pub mod Laws
pub mod Theorems
pub mod TableTheorems
pub mod TextTheorems
-- The contracts of the entries
pub mod Promises
