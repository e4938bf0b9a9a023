mod CaseLemmas
pub mod TreeLemmas
mod FunctionLemmas
mod NameLemmas
mod PlainLemmas
mod TableLemmas
mod RowLemmas
mod ReadLemmas
