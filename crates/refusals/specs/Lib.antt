-- Every refusal, with its number and its line: [10.1] to [10.15], [16.4], [16.5].
-- Numbers in brackets, here and in every file, are those of the rules in docs/REQUIREMENTS.md.

-- The definitions
pub mod Answers
pub mod Refusals
