pub mod EachLemmas
pub mod OneLemmas
pub mod StandLemmas
pub mod FreeLemmas
pub mod FactLemmas
