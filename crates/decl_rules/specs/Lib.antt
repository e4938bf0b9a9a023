pub mod Forms
pub mod Late
pub mod Methods
pub mod Objects
pub mod Rules
pub mod Specifications
pub mod Under
pub mod Wants
