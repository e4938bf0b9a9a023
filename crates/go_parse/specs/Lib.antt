pub mod State
pub mod Machine
pub mod Names
pub mod Reading
pub mod Chunk
