-- Texts as lines, and lines as fields: [1.1], [1.2].

-- The definitions
pub mod Texts
-- Their laws
pub mod Laws
