use Rattle.report_text.specs.ReplyStanding.{SaidStands}
use Rattle.report_text.proofs.LineLemmas.{rest_all, behind_more}
use Rattle.report_text.proofs.json_parts.push_behind.Goals as goal

pub loop-next-preserved : goal.loop-next-preserved
loop-next-preserved c = (
  c.in_ok-hand.ensures.is,
  rest_all (SaidStands c.args.files.now) c.in-Some.next.now c.in-Some.more.now c.loop-next.rest.now c.in-Some.ensures c.loop-next.invariant.1,
  behind_more c.args.files.now c.loop-next.last.now c.in-Some.next.now c.loop-next.rest.now c.in-Some.more.now c.loop-next.out.items _ _ _ c.in-Some.ensures c.loop-next.invariant.2 c.in_ok-push_between.ensures c.in_ok-hand.ensures.written,
)
