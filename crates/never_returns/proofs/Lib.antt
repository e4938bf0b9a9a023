mod AdmitsLemmas
mod NumberLemmas
mod ReaderLemmas
mod LookLemmas
