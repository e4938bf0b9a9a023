pub mod OpenLemmas
mod MarkLemmas
mod ValueLemmas
