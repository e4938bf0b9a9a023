pub mod Gains
pub mod Late
pub mod Collected
