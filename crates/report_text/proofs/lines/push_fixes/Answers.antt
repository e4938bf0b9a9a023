use Rattle.std.proofs.Common.{ap, arith, length}
use Rattle.report_text.specs.ReplyStanding.{Earlier, spots_of}
use Rattle.report_text.proofs.FixLemmas.{fix_more}
use Rattle.report_text.proofs.LineLemmas.{rest_all}
use Rattle.report_text.proofs.lines.push_fixes.Goals as goal

pub loop-choice-preserved : goal.loop-choice-preserved
loop-choice-preserved c = (
  c.in_ok-hand-2.ensures.is,
  (let so_far = c.loop-choice.invariant.1 in let less = ap length c.in-Some.ensures in omega (arith, so_far, less)),
  rest_all (Earlier (length c.args.spots.now)) c.in-Some.choice c.in-Some.more.now c.loop-choice.rest.now c.in-Some.ensures c.loop-choice.invariant.2,
  fix_more c.args.files.now (spots_of c.args.spots.now) c.loop-choice.n c.in-Some.choice c.loop-choice.rest.now c.in-Some.more.now c.loop-choice.out.items _ _ c.in-Some.ensures c.loop-choice.invariant.3 c.in_ok-hand-2.ensures.line,
)
