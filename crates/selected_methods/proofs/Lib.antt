pub mod Lists
pub mod WayLemmas
pub mod MethodLemmas
pub mod ChosenLemmas
pub mod RowLemmas
