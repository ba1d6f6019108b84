pub mod Seen
pub mod Stored
pub mod Sizes
pub mod Fills
