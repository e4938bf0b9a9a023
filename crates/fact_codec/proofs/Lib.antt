pub mod TableLemmas
pub mod OrderLemmas
pub mod Readers
pub mod TextLemmas
pub mod WrapLemmas
pub mod WriteLemmas
