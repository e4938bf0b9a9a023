pub mod Places
mod RowLemmas
pub mod WholeLaws
mod FitLaws
pub mod LawfulLaws
mod EnvLaws
mod AroundLaws
mod ReachLaws
mod CacheLaws
mod TableLaws
mod StepLaws
mod MissingLaws
pub mod AnalyzerLaws
mod RunNodeLaws
mod LoadingLaws
mod MakingLaws
mod InputLaws
pub mod PlanLaws
pub mod EntryLaws
mod EntryLoops
mod FoundInLaws
mod FindingLaws
mod FactLaws
mod DueLaws
mod FactsTold
mod GivenLaws
mod ToldLaws
mod SoughtLaws
mod ReportLaws
pub mod RunLaws
pub mod OnceLaws
mod PerformLaws
mod WaveLaws
mod WaveSums
mod ChosenLaws
pub mod GrownLaws
mod ExistingLoads
mod ExistingFacts
pub mod ExistenceLaws
mod BelowLaws
pub use Rattle.action_graph.proofs.OneFinding
pub use Rattle.action_graph.proofs.OneUnit
