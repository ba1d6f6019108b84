-- A table in which a type is named by its place: types as [3.1] has them. No contract of an entry rests on it.

-- What the contracts of parts say
pub mod Nodes
pub mod Table
pub mod Columns
-- Their laws
pub mod Laws
