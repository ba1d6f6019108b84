pub mod Numbers
pub mod WalkSteps
pub mod Front
pub mod LoopsTable
pub mod Tables
pub mod TermRows
pub mod Shapes
pub mod Standing
