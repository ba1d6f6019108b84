-- How the code that finds the types of a plan's rows meets the definition of the check (crate `typing`): [10.7] and [10.8]. No contract
-- of an entry rests on it.

-- What the contracts of parts say
pub mod Terms
pub mod Typed
