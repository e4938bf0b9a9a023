pub mod Walks
pub mod Settling
pub mod Elaborated
pub mod Covering
pub mod Briefs
pub mod Types
