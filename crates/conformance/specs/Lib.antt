pub mod Ready
pub mod Plain
