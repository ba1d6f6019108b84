-- The laws of the walk, and the proofs of what `Theorems` states. A reader need not believe any of it.
pub mod Each
pub mod Words
pub mod Ask
pub mod Heads
pub mod Pass
pub mod PassPlans
pub mod PassLoops
pub mod Forest
pub mod PlanNodes
pub mod LoopsNodes
pub mod Parse
pub mod Read
pub mod ReadPlans
pub mod ReadLoops
pub mod Listed
pub mod LanesInside
