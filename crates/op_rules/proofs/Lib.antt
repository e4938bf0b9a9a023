mod ApartLaws
mod LooseLaws
mod TypeLemmas
