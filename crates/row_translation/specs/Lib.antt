-- Writing a term and using it, over its rows: [6.2] to [6.15]. No contract of an entry rests on it.

-- What the contracts of parts say
pub mod WriteAndUse
-- Their laws
pub mod Laws
