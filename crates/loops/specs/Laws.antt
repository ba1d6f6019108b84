-- The laws of the check of loops. A reader need not believe any of it.
pub mod Passing
pub mod Literals
pub mod TranslatedLiterals
pub mod Printed
pub mod LanesTests
