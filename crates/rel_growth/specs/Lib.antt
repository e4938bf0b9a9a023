pub mod Assign
pub mod Compare
pub mod Convert
pub mod Implement
pub mod Meeting
