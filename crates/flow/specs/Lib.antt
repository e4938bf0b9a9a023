pub mod Kinds
pub mod Edges
pub mod Around
pub mod Flow
pub mod Search
pub mod Passing
pub mod Seen
