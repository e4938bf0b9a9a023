pub mod Gains
pub mod Passes
pub mod Reported
pub mod InCode
