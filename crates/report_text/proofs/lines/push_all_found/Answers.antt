use Rattle.analysis_core.specs.Replies.{found_line}
use Rattle.report_text.proofs.FixLemmas.{written_more}
use Rattle.report_text.proofs.lines.push_all_found.Goals as goal

pub loop-line-preserved : goal.loop-line-preserved
loop-line-preserved c = (
  c.in_ok-hand-2.ensures.is,
  written_more (found_line c.args.files.now) c.args.out.now.items c.args.found.now c.loop-line.line-index c.line-item.result c.loop-line.out.items _ c.loop-line-test.true c.line-item.is c.loop-line.invariant.1 c.in_ok-hand-2.ensures.line,
)
