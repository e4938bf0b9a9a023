pub mod Over
pub mod Questions
pub mod Judging
