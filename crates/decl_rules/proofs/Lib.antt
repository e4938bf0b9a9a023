pub mod UnderLemmas
pub mod GiveLemmas
