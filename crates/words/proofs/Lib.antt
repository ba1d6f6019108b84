pub mod Lists
pub mod Packed
pub mod Rows
pub mod Laws
