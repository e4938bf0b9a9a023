pub mod SizeLemmas
pub mod LimitLemmas
pub mod ReadLemmas
pub mod LineLemmas
pub mod RefusalLemmas
pub mod OnceLemmas
pub mod ReportLemmas
pub mod SourceLemmas
pub mod NodeCosts
pub mod NodeLemmas
pub mod HeadLemmas
mod ApartLemmas
pub mod TreeLemmas
pub mod OrderLemmas
pub mod StandLemmas
pub mod StopLemmas
pub mod ExistenceLemmas
pub mod PlainLemmas
mod ToldLemmas
mod ReadingLemmas
mod HeardLemmas
pub use Rattle.gv_driver.proofs.AnalyzerLaws
pub use Rattle.gv_driver.proofs.EntryLaws
pub use Rattle.gv_driver.proofs.GrownLaws
pub use Rattle.gv_driver.proofs.Places
pub use Rattle.gv_driver.proofs.WholeLaws
