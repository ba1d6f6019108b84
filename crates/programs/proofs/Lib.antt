pub mod FirstNumber
pub mod Putting
pub mod MadeTexts
pub mod Tables
pub mod Outcomes
