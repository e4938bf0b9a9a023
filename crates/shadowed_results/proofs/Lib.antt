pub mod TableLemmas
pub mod ValueLemmas
pub mod SweepLemmas
pub mod ShadowLemmas
pub mod ReturnLemmas
pub mod EarlyLemmas
