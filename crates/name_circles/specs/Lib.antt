pub mod Circles
pub mod Values
