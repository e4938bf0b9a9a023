mod ArrowLemmas
mod ListLemmas
mod PassLemmas
mod TypeLemmas
