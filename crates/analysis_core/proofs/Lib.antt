pub mod FindingLemmas
pub mod JsonLemmas
pub mod OneLemmas
pub mod OrderLemmas
