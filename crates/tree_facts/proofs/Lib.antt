pub mod UnitLemmas
pub mod TreeLemmas
pub mod WholeLemmas
pub mod NeverTree
pub mod PrintTree
pub mod SpecificationFacts
