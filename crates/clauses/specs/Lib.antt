-- The clauses of the translation around its calls: [6.7] to [6.14]. No contract of an entry rests on it.

-- What the contracts of parts say
pub mod Clauses
-- Their laws
pub mod Laws
