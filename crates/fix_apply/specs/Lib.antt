pub mod Edits
pub mod Rewriting
pub mod Spots
pub mod Choices
pub mod Slots
pub mod Trees
pub mod Claims
pub mod SpecificationFacts
