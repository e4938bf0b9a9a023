use Rattle.std.proofs.Common.{sym, ◌∙◌}
use Rattle.std.proofs.lemmas.Option.{none-some}
use Rattle.gv_bytes.proofs.Options.{some_is, unspelled}
use Rattle.analysis_core.specs.Findings.{findings_in}
use Rattle.analysis_core.proofs.FindingLemmas.{findings_take, spelled_is_read}
use Rattle.analysis_core.proofs.findings_reading.read_findings.Goals as goal

pub returns-in-Ok-clause-found : goal.returns-in-Ok-clause-found
returns-in-Ok-clause-found c = findings_take c.args.bytes.now c.in-Ok.list.items c.in-Ok.ensures

pub returns-in-Ok-clause-only : goal.returns-in-Ok-clause-only
returns-in-Ok-clause-only c = λ xs h. some_is c.in-Ok.list.items xs (sym c.in-Ok.ensures ∙ spelled_is_read c.args.bytes.now xs h)

pub returns-in-Err-Unspelled-clause-only : goal.returns-in-Err-Unspelled-clause-only
returns-in-Err-Unspelled-clause-only c = λ xs h. absurd (none-some xs (sym (unspelled c.in-Err-Unspelled.field-0 (findings_in c.args.bytes.now) c.in-Err-Unspelled.field-0-is c.in-Err-Unspelled.ensures) ∙ spelled_is_read c.args.bytes.now xs h))
