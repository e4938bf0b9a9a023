pub mod Told
pub mod File
