pub mod AgainLemmas
pub mod BindLaws
pub mod DeclareLemmas
pub mod InterfaceLemmas
mod KeepLemmas
pub mod ListLemmas
pub mod PartLemmas
pub mod SceneLemmas
