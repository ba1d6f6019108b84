-- The proofs of the demands. A reader need not believe any of it.
pub mod Asked
pub mod LoopsAsked
pub mod Doors
pub mod Told
pub mod PlanEntries
pub mod LoopsEntries
pub mod Filling
pub mod Codes
pub mod Programs
pub mod ValuesUnread
pub mod Made
pub mod PrintedRuns
pub mod Delivered
pub mod Lengths
pub mod Searches
pub mod Twins
