use Rattle.tree_findings.proofs.GatherLemmas.{gathered-none, gathered-more}
use Rattle.tree_findings.proofs.gather.gathered.Goals as goal

pub loop-k-init : goal.loop-k-init
loop-k-init c = gathered-none c.args.count c.args.fixes.now c.args.choices.now c.in_ok-rows.rows.items c.in_ok-rows.ensures.size c.in_ok-rows.ensures.empty

pub loop-k-preserved : goal.loop-k-preserved
loop-k-preserved c =
    gathered-more c.args.count c.args.fixes.now c.args.choices.now c.loop-k.k c.index-fixes-k.result c.choice_numbered-choice.result c.loop-k.rows.items c.push_fix.new.rows.items c.loop-k-test.true c.requires c.index-fixes-k.is c.choice_numbered-choice.ensures
    c.loop-k.invariant c.in_ok-push_fix.ensures.size c.in_ok-push_fix.ensures.each
