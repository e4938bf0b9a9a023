pub mod HandedLemmas
