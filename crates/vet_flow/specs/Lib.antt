pub mod Unreachable
