-- How the code that puts [10.9] to the rows of loops, and counts their writes ([7.1]) and cells ([7.4]), meets the definitions (crates
-- `bounds` and `meaning`). No contract of an entry rests on it.

-- What the contracts of parts say
pub mod Table
pub mod Ends
pub mod Names
pub mod Figures
pub mod Asking
pub mod Whole
