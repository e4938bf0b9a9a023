pub mod DeclareLemmas
mod FaceLemmas
pub mod FitLemmas
pub mod GivenLemmas
mod StepLemmas
mod TypesLemmas
mod UniverseLemmas
