pub mod Words
pub mod SeenLemmas
pub mod MethodLemmas
pub mod CalleeLemmas
pub mod EntryLemmas
pub mod MeetLemmas
pub mod ToldLemmas
pub mod NeverLemmas
pub mod WrapLemmas
pub use Rattle.own_functions.proofs.NameLemmas as FunctionNames
