pub mod LabelTables
pub mod NameTables
pub mod Facts
pub mod Bodies
pub mod Asking
