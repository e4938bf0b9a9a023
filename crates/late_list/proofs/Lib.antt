pub mod GainLemmas
pub mod SomeLemmas
pub mod RuleLemmas
