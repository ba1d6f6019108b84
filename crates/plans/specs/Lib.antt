-- What the entries of the check of a plan promise: [10.1] to [10.8] (crate `typing`), and [10.12] where a table is lent.

-- The contracts of the entries
pub mod Promises
