pub mod BareLemmas
pub mod CellLemmas
pub mod EntryLemmas
pub mod EnvironmentLemmas
pub mod FaceLemmas
pub mod IndexLemmas
mod RowLemmas
pub mod TextLemmas
pub mod TypeLemmas
