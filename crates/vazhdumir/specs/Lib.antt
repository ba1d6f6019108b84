-- What an entry tells C: [12.1] to [12.4], [17.4].

-- The definitions
pub mod Codes
-- The contracts of the entries
pub mod Promises
