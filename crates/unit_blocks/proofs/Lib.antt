pub mod BlockLemmas
pub mod FewLemmas
pub mod OneLemmas
