-- The laws of the entries: what their answers say, and the plan of a text. A reader need not believe any of it.
pub mod Answers
pub mod Texts
