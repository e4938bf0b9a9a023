mod ChosenLemmas
mod GatherLemmas
mod LineLemmas
pub mod MendLemmas
mod OrderedLemmas
pub mod ToldLemmas
