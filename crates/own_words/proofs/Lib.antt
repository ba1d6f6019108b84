pub mod Letters
pub mod Lines
pub mod Rows
pub mod Turns
pub mod Answers
