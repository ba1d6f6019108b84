-- The check of a plan, as a definition: questions 1 to 8, [10.1] to [10.8], put to a text in the order of [10.16]; and that it accepts
-- exactly the plans that are well typed within the limits [10.21].
-- Numbers in brackets, here and in every file, are those of the rules in docs/REQUIREMENTS.md.

-- The definitions
pub mod Check
pub mod Entry
pub mod Accepted
pub mod Lengths
pub mod Questions
pub mod TypeQuestions
pub mod EntryQuestions

-- Their laws, what is proved, and computed examples stand in proofs/.
