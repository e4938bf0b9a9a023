pub mod AgainLemmas
pub mod SeenLemmas
pub mod KeyLemmas
pub mod NodeLemmas
