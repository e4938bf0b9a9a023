pub mod Forms
pub mod Marked
pub mod Called
pub mod Quiet
pub mod Texts
pub mod Diagnosing
pub mod InCode
