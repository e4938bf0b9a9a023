pub mod BitLaws
pub mod DigitLaws
pub mod Marks
pub mod Shifts
mod SpecificationFacts
