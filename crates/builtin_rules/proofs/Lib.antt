mod LevelLemmas
pub mod ListLemmas
mod QuietLemmas
pub mod SpecificationFacts
