pub mod Words
pub mod Script
pub mod Runs
pub mod Segments
pub mod Fields
pub mod Next
pub mod Reading
