pub mod Lines
pub mod Mending
pub mod Telling
