use Rattle.std.proofs.Common.{All, take}
use Rattle.analysis_core.specs.Findings.{IsOwn}
use Rattle.analysis_core.proofs.own.all_own.Given as goal

abbrev pub invariant-loop-diagnostic : goal.invariant-loop-diagnostic
invariant-loop-diagnostic l = All IsOwn (take l.diagnostic-index l.d)
