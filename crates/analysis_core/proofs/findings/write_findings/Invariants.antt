use Rattle.std.proofs.Common.{◌≡◌, ◌++◌, length, take}
use Rattle.std.specs.List.{flat_map, AllByRecursion}
use Rattle.gv_bytes.specs.Spelling.{natural}
use Rattle.analysis_core.specs.Findings.{diagnostic_text, IsDiagnostic}
use Rattle.analysis_core.proofs.findings.write_findings.Given as goal

abbrev pub invariant-loop-diagnostic : goal.invariant-loop-diagnostic
invariant-loop-diagnostic l =
    record { written : l.out.items ≡ natural (length l.d) ++ flat_map diagnostic_text (take l.diagnostic-index l.d); size : AllByRecursion IsDiagnostic (take l.diagnostic-index l.d) }
