pub mod Suspects
pub mod CopyLocks
pub mod Held
