pub mod RowLemmas
pub mod QuietLemmas
pub mod MethodLemmas
pub mod FaceLemmas
