mod AroundLemmas
mod RestLemmas
mod SpecificationFacts
pub mod TypeLemmas
