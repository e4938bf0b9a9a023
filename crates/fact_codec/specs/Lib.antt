pub mod Kinds
pub mod UnitLaws
pub mod WrapLaws
pub mod Tables
pub mod Texts
