-- What a store is: [9.1] and [9.11].

-- The definitions
pub mod Cells
pub mod Store
-- Their laws
pub mod Laws
pub mod BytesLaws
