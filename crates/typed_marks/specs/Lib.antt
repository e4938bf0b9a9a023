pub mod Cells
pub mod Items
pub mod Meanings
pub mod States
