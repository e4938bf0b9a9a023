pub mod Named
pub mod InCode
