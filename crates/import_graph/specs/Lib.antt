pub mod Sources
pub mod Modules
pub mod Orders
pub mod Packages
pub mod Tables
