mod ConvertLaws
mod ListLemmas
mod ResultLemmas
pub mod SpecificationFacts
