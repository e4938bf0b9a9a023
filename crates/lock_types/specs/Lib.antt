pub mod Locks
pub mod InTable
