mod NameTexts
mod ReadLemmas
mod GivenLemmas
mod SeenLemmas
mod TellLemmas
mod LoadLemmas
mod RunLemmas
pub mod KnownLemmas
