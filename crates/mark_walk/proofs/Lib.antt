pub mod AskLaws
pub mod MoreLaws
pub mod TellLaws
pub mod WaitLemmas
