pub mod ArenaLemmas
pub mod NumberLemmas
pub mod UseLemmas
pub mod LocalLemmas
pub mod AssignedLemmas
pub mod FileLemmas
