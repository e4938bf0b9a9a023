use Rattle.std.proofs.Common.{◌∙◌, refl, arith}
use Rattle.flow.proofs.MentionLemmas.{called_more, all_called}
use Rattle.flow.proofs.mentions.called.Goals as goal

pub loop-p-preserved : goal.loop-p-preserved
loop-p-preserved c =
    called_more c.args.calls.now c.args.points.now c.loop-p.p-index c.called_at.result c.loop-p.found.items c.add.new.found.items
    c.loop-p-test.true c.called_at.ensures c.in_ok-add.ensures c.loop-p.invariant

pub returns : goal.returns
returns c = all_called c.args.calls.now c.args.points.now c.loop-p.p-index c.loop-p.found.items (let high = c.loop-p-test.false in omega arith) c.loop-p.invariant
