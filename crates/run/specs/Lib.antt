-- What the run entries answer, and what store they leave: [9.10], [10.13] and [10.14].

-- The definitions
pub mod Run
-- What is proved
pub mod Theorems
-- The contracts of the entries
pub mod Promises
