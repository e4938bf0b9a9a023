pub mod Asks
pub mod Marking
pub mod Telling
pub mod Waiting
