pub mod Handed
pub mod Lines
pub mod Questions
pub mod Stores
pub mod Sizes
pub mod Laws
pub mod TableLaws
