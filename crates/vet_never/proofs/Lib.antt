pub mod CalleeLemmas
pub mod AdmitLemmas
pub mod KnownLemmas
pub mod FileLemmas
pub mod TextLemmas
pub mod PutLemmas
pub mod MoveLemmas
pub mod OneLemmas
