pub mod RowCounts
pub mod TermRows
pub mod Calls
pub mod WriteCalls
pub mod ReduceCalls
pub mod Sizes
