use Rattle.std.proofs.Common.{arith}
use Rattle.package_needs.proofs.AboveLemmas.{above_step, above_all}
use Rattle.package_needs.proofs.above.above_nodes.Goals as goal

pub loop-n-preserved : goal.loop-n-preserved
loop-n-preserved c = above_step c.args.nodes.now c.loop-n.table.items _ c.loop-n.n c.index-nodes-n.result c.as_slice.result.now c.loop-n-test.true c.index-nodes-n.is c.as_slice.ensures c.loop-n.invariant c.mark_parts.ensures

pub returns : goal.returns
returns c = above_all c.args.nodes.now c.loop-n.table.items c.loop-n.n (let t = c.loop-n-test.false in let s = c.loop-n.auto.n-end in omega arith) c.loop-n.invariant
