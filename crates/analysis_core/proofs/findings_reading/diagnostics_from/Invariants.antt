use Rattle.std.proofs.Common.{◌≡◌, ◌-◌}
use Rattle.gv_bytes.specs.Reading.{each_at}
use Rattle.gv_bytes.proofs.Loops.{with_front}
use Rattle.analysis_core.specs.Findings.{diagnostic_at}
use Rattle.analysis_core.proofs.findings_reading.diagnostics_from.Given as goal

abbrev pub invariant-loop : goal.invariant-loop
invariant-loop l = with_front l.list.items (each_at diagnostic_at (l.count - l.counter) l.rest) ≡ each_at diagnostic_at l.count l.bytes
