pub mod Shapes
pub mod Puts
