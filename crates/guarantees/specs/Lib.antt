-- The three demands over the public entries, their twins, and the cards: demand 1 is [10.16], [10.17], [10.22] and [17.1] to [17.4], demand 2
-- [10.21], part 6, [1.9], [16.9] and [9.9], demand 3 [9.8] and [9.14]; mixings of any loops are [9.12] and [9.13], their lanes [18.10]; the
-- twins are [16.1] to [16.8] and [17.3]; the cards are [15.1] and [15.2].
-- Numbers in brackets, here and in every file, are those of the rules in docs/REQUIREMENTS.md.

-- The demands, and the definitions that the crates of the entries lack
pub mod Told
pub mod Answers
pub mod Questions
pub mod Runs
pub mod Ways
pub mod Demand1
pub mod Demand2
pub mod Demand3
pub mod Mixings
pub mod Lanes
pub mod Twins
pub mod Demands
-- The cards P1 to P10, computed
pub mod Cards

-- What is proved, its laws, and computed tests of the translation, the value and the runs stand in proofs/.
