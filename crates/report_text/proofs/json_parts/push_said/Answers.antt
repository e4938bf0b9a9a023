use Rattle.std.proofs.Common.{◌∙◌, ap}
use Rattle.analysis_core.specs.JsonReplies.{as_text}
use Rattle.report_text.proofs.LineLemmas.{said_written}
use Rattle.report_text.proofs.json_parts.push_said.Goals as goal

pub returns-clause-written : goal.returns-clause-written
returns-clause-written c =
    said_written c.args.files.now c.args.said.now c.as_text.result.now c.args.out.now.items _ _ _ _ _ (c.as_text.ensures ∙ ap as_text c.as_slice.ensures)
    c.in_ok-extend_from_slice.ensures.items c.in_ok-push_quoted.ensures c.in_ok-extend_from_slice-2.ensures.items c.in_ok-hand.ensures.written c.in_ok-push.ensures.items
