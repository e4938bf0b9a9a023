use Rattle.std.proofs.Common.{◌<◌, length, arith}
use Rattle.tree_report.proofs.LineLemmas.{lines-more}
use Rattle.tree_report.proofs.states.error_lines.Goals as goal

pub loop-k-preserved : goal.loop-k-preserved
loop-k-preserved c =
    let inside : c.loop-k.k < length c.args.found.now.packages.now = c.loop-k-test.true in
    let known : c.loop-k.k < length c.args.found.now.outcomes.now = (let size = c.requires.outcomes in omega (arith, inside, size)) in
    lines-more c.args.found.now.heads.now c.args.found.now.verdicts.now c.args.found.now.packages.now c.args.found.now.outcomes.now c.loop-k.k c.index-found-k.result c.index-found-k-in-loop-k.result c.loop-k.lines.items _ _
    inside known c.in_ok-push_state.ensures c.loop-k.invariant
