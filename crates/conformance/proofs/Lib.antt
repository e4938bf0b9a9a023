mod ReadyLemmas
mod PlainLaws
pub mod GrowthLaws
