pub mod Run
pub mod Slots
