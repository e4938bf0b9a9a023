pub mod Kinds
pub mod Stages
pub mod Shadows
pub mod Tables
pub mod InCode
pub mod Early
