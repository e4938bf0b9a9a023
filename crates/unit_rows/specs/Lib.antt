pub mod Circular
pub mod Cyclic
pub mod Defined
pub mod Drafts
pub mod Grouping
pub mod Redeclared
pub mod Rows
pub mod Tables
