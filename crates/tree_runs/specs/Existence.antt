-- That each tree can be read, and where no package is stuck has a report: a statement of existence is the denial that there is none.
use Rattle.std.specs.Prelude.{List}
use Rattle.gv_base.specs.Files.{AreInOrder, Entry}
use Rattle.tree_report.specs.Form.{HasReading}
pub use Rattle.tree_report.specs.Existence.{AllHaveOutcomes, AllRunsHaveOutcomes}
use Rattle.tree_runs.specs.Reports.{Entries, HasText, Reports}
use Rattle.tree_runs.specs.declared.report.Task.{Task}
use Rattle.tree_runs.specs.declared.report.TreeReport.{TreeReport}

-- no tree is without verdicts and heads of its files, and packages
abbrev pub AllCanBeRead : Type 0
AllCanBeRead = (tree : List Entry) → AreInOrder tree → (HasReading tree → ⊥) → ⊥

-- the tree isn't without a report over this cache, which leaves one that has a text
abbrev pub HasRun : List Entry → Task → Entries → Type 0
HasRun tree task before = ((after : Entries) (report : TreeReport) → Reports tree task before after report → HasText after → ⊥) → ⊥
