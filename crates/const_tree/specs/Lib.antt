pub mod Operators
pub mod Constants
