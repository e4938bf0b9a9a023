pub mod FixLemmas
pub mod LineLemmas
pub mod PrintLemmas
pub mod SaidLemmas
pub mod TestLemmas
