pub mod Cuts
pub mod TokenLaws
pub mod Plain
