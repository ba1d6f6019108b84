pub mod Found
pub mod ScopeLaws
