-- The nodes of a run's work, and their order.
use Rattle.std.specs.Prelude.{◌≡◌, ℕ, ◌+◌, ◌*◌, ◌/◌, ◌%◌, ◌^◌, ◌<◌, ◌==◌, Bool, true, false, if◌then◌else◌, Option, Some, None}
use Rattle.analysis_core.specs.AnalyzerNames.{analyzer_numbered}
use Rattle.analysis_core.specs.declared.analyzer_name.AnalyzerName.{AnalyzerName}
use Rattle.analysis_core.specs.declared.analyzer_name.AnalyzerName.TheVariants as analyzer
use Rattle.action_graph.specs.declared.work.ActionNode.{ActionNode}
use Rattle.action_graph.specs.declared.work.ActionNode.TheVariants.{Load, Run}

-- a node's place in the order of nodes: by package, its load first, then by analyzer
abbrev pub place_of : ActionNode → ℕ
place_of (Load p) = p * 16
place_of (Run a p) = p * 16 + a

-- the number of the node's package
abbrev pub package_of : ActionNode → ℕ
package_of (Load p) = p
package_of (Run a p) = p

-- an analyzer's number
abbrev pub IsAnalyzer : ℕ → Type 0
IsAnalyzer a = (0 < a) × (a < 16)

-- a load, or a run of an analyzer
abbrev pub IsNumbered : ActionNode → Type 0
IsNumbered (Load p) = Unit {0}
IsNumbered (Run a p) = IsAnalyzer a

-- ctrlflow and printf, which give facts and read those of the packages of the environment
abbrev pub has_facts : ℕ → Bool
has_facts a = if a == 4 then true else a == 6

-- the bit of the analyzer is set
abbrev pub IsChosen : ℕ → ℕ → Type 0
IsChosen only a = only / 2 ^ a % 2 ≡ 1

-- the analyzers that are there: all that have a name
abbrev pub is_there : AnalyzerName → Bool
is_there analyzer.Assign = true
is_there analyzer.Bools = true
is_there analyzer.CopyLocks = true
is_there analyzer.CtrlFlow = true
is_there analyzer.NilFunc = true
is_there analyzer.Printf = true
is_there analyzer.StringIntConv = true
is_there analyzer.StructTag = true
is_there analyzer.Unreachable = true
is_there analyzer.UnusedResult = true

abbrev pub is_there_if : Option AnalyzerName → Bool
is_there_if None = false
is_there_if (Some name) = is_there name

-- A driver runs the analyzers of these numbers; no other has a node.
unfoldable pub has_runs : ℕ → Bool
has_runs a = is_there_if (analyzer_numbered a)
