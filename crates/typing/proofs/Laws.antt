-- The laws of the check, and the proofs of what `Theorems` states. A reader need not believe any of it.
pub mod Questions
pub mod TypeQuestions
pub mod EntryQuestions
pub mod PlanLanes
pub mod Tests
pub mod Accept
pub mod Sized
pub mod Plans
pub mod Lengths
pub mod Rows
pub mod Texts
