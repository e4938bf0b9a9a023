pub mod FieldLemmas
pub mod JoinLemmas
pub mod ListLemmas
pub mod MethodLemmas
pub mod OrderLemmas
pub mod PartLemmas
