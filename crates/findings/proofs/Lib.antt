pub mod GainLemmas
pub mod ReportLemmas
