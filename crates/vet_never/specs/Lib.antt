pub mod Listed
pub mod Callees
pub mod Never
pub mod InCode
pub mod Knowing
