pub mod Counts
pub mod VerdictLaws
pub mod PlaceLaws
mod LexemeBytes
pub mod TokenTexts
