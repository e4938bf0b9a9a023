pub mod LabelLemmas
pub mod DeadLemmas
