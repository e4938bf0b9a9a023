mod AroundLemmas
mod RowLemmas
mod SearchLemmas
mod SeenLemmas
mod GraphLemmas
pub mod LawLemmas
mod MarkLemmas
mod PassingLemmas
mod CutLemmas
mod MentionLemmas
