pub mod Signs
pub mod Puts
