mod AnswerLemmas
pub mod BriefLemmas
pub mod NowhereLemmas
mod WalkLemmas
mod StepLemmas
mod CoverLemmas
