pub mod Counts
pub mod Forms
pub mod InCode
pub mod Objects
pub mod Rules
pub mod Several
pub mod Sharing
pub mod Wants
