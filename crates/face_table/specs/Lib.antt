pub mod Fitting
pub mod Universes
