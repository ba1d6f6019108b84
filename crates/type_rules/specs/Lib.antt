-- How the code that types one row, its operands having types, meets the definition of the check (crate `typing`): [10.7] and [10.8].
-- No contract of an entry rests on it.

-- What the contracts of parts say
pub mod Rules
pub mod Scopes
