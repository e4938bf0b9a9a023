mod LexemeFacts
pub mod Literals
pub mod TokenTexts
pub mod Spelled
pub mod Heads
pub mod NodeLemmas
