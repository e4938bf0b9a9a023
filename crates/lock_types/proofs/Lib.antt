pub mod PlainLemmas
pub mod PartLemmas
pub mod OrderLemmas
