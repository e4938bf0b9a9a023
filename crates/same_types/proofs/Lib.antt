pub mod SameLemmas
mod ListLemmas
