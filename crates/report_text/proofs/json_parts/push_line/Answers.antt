use Rattle.report_text.specs.ReplyStanding.{SaidStands}
use Rattle.report_text.proofs.LineLemmas.{rest_all, line_written}
use Rattle.report_text.proofs.json_parts.push_line.Goals as goal

pub push_behind-requires-clause-stand : goal.push_behind-requires-clause-stand
push_behind-requires-clause-stand c = rest_all (SaidStands c.args.files.now) c.in-Some.first.now c.in-Some.rest.now c.args.said.now c.in-Some.ensures c.requires.stand
