pub mod Duplicates
pub mod InCode
