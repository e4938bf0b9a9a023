pub mod Truths
pub mod AssignLaws
pub mod CompareLaws
pub mod ImplementLaws
pub mod ConvertLaws
pub mod PartLaws
pub mod HeldLemmas
pub mod MeetingLemmas
