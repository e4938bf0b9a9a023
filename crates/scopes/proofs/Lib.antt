pub mod VisibleLemmas
pub mod FirstLemmas
pub mod RegionLemmas
pub mod WalkLemmas
