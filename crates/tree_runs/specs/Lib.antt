pub mod Reports
pub mod Cutting
pub mod Existence
pub use Rattle.tree_report.specs.Tallies
