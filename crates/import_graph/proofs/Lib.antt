pub mod SourceLemmas
pub mod ModuleLemmas
pub mod OrderLemmas
pub mod NameLemmas
pub mod RowLemmas
pub mod ImportLemmas
pub mod ListLemmas
pub mod PackageLemmas
pub mod FaultLemmas
pub mod CycleLemmas
pub mod LawLemmas
pub mod OneLemmas
mod TextLemmas
