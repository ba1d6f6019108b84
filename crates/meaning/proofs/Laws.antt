-- The laws of the definitions, and the proofs of what `Theorems` states. A reader need not believe any of it.

-- Types: the relation of Figure 3, computed
pub mod Typing
pub mod Inference
pub mod Series
-- Numbers, orders, rooms, paths and offsets
pub mod Groups
pub mod Orders
pub mod Layout
pub mod LayoutTests
pub mod Paths
pub mod Evaluation
pub mod Levels
-- The value by lists and by paths
pub mod PathValues
pub mod Lists
pub mod Represents
pub mod Agreement
pub mod Cells
pub mod Shapes
pub mod Inputs
-- Demand 3: what holds, what is written, and the induction over terms
pub mod Holds
pub mod Into
pub mod Wrote
pub mod Rounds
pub mod Assign
pub mod Claims
pub mod Regions
pub mod Maps
pub mod Parts
pub mod Totals
pub mod Reductions
pub mod Terms
pub mod Outcomes
-- Runs of any loops
pub mod Runs
pub mod Arbiters
pub mod Steps
pub mod Safety
pub mod Needs
-- Translated loops pass
pub mod Bounds
pub mod Passing
pub mod PassingClaims
pub mod PassingTerms
pub mod PassingPlans
-- The rows of a use
pub mod UseRows
-- Lanes: as `par`, and question 18
pub mod LanesAsPar
pub mod Lanes
-- Plans computed
pub mod Computed
pub mod VectorTests
