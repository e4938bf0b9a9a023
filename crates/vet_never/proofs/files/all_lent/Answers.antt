use Rattle.std.proofs.Common.{length, arith}
use Rattle.vet_never.proofs.FileLemmas.{none_lent, lent_more, all_lent}
use Rattle.vet_never.proofs.files.all_lent.Goals as goal

pub loop-i-init : goal.loop-i-init
loop-i-init c = none_lent c.args.trees.now c.args.list.now c.new-flows.result.items c.new-flows.ensures.items

pub loop-i-preserved : goal.loop-i-preserved
loop-i-preserved c = lent_more c.args.trees.now c.args.list.now c.loop-i.i c.loop-i.flows.items c.push.new.self.items c.lent.result c.loop-i.invariant c.lent.ensures c.in_ok-push.ensures.items

pub returns : goal.returns
returns c = all_lent c.args.trees.now c.args.list.now c.loop-i.i (length c.args.trees.now) c.loop-i.flows.items (omega (arith, c.loop-i-test.false, c.loop-i.auto.i-end)) c.loop-i.invariant
