pub mod AnswerLemmas
pub mod ComingLaws
pub mod OperandLemmas
pub mod PendingLemmas
pub mod SelectionLemmas
pub mod UnknownLemmas
