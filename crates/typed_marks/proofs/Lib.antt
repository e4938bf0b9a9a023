pub mod NumberLemmas
pub mod CellLemmas
mod FilledLemmas
pub mod TableLemmas
