pub mod Functions
pub mod InCode
