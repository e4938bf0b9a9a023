use Rattle.report_text.proofs.LineLemmas.{as_good, as_bad}
use Rattle.report_text.proofs.json_parts.as_text.Goals as goal

pub returns-in-Ok : goal.returns-in-Ok
returns-in-Ok c = as_good c.args.bytes.now c.in-Ok.ensures.cases.1

pub returns-in-Err : goal.returns-in-Err
returns-in-Err c = as_bad c.args.bytes.now c.in-Err.ensures.cases.0
