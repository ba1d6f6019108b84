-- What the translation emits ([6.3], [6.17] to [6.23]), and the table in which the code holds it. No contract of an entry rests on it.

-- What the contracts of parts say
pub mod Table
pub mod Nodes
pub mod Changes
pub mod Elements
pub mod References
pub mod Growth
-- Their laws
pub mod Laws
