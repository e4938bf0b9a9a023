pub mod RunLemmas
pub mod PairLemmas
pub mod GainLemmas
pub mod TypeLemmas
pub mod ChainLemmas
pub mod TagLemmas
