pub mod Operators
pub mod Rules
