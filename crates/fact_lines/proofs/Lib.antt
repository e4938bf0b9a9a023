mod ToldLemmas
mod LineLemmas
