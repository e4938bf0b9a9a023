pub mod Owners
pub mod Ways
pub mod Selected
pub mod InCode
