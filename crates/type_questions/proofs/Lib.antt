pub mod OverLaws
pub mod QuestionLaws
pub mod JudgingLaws
pub mod KnowingLaws
pub mod TableLaws
pub mod WholeLaws
pub mod StepLaws
