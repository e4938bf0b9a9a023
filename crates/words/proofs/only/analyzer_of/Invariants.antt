use Rattle.std.proofs.Common.{◌≢◌, ◌<◌}
use Rattle.analysis_core.specs.declared.analyzer_name.AnalyzerName.{AnalyzerName}
use Rattle.analysis_core.specs.AnalyzerNames.{number_of, name_of}
use Rattle.words.proofs.only.analyzer_of.Given as goal

abbrev pub invariant-loop-number : goal.invariant-loop-number
invariant-loop-number l = (a : AnalyzerName) → number_of a < l.number → name_of a ≢ l.name
