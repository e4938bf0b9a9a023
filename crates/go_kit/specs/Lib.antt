pub mod Reading
pub mod Keeping
pub mod Returning
pub mod Loading
