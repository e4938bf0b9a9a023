pub mod BasicLaws
pub mod UniverseLaws
mod SpecificationFacts
