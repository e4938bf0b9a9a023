pub mod TreeLemmas
mod ToldLemmas
mod PanicLemmas
