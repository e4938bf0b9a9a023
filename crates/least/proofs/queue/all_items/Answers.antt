use Rattle.std.proofs.Common.{arith}
use Rattle.least.proofs.WorkLemmas.{each_more, items_more}
use Rattle.least.proofs.queue.all_items.Goals as goal

pub loop-i-preserved : goal.loop-i-preserved
loop-i-preserved c = record {
  each = rw c.in_ok-push.ensures.items (each_more _ _ c.loop-i.invariant.each);
  items = rw c.in_ok-push.ensures.items (items_more _ _ c.loop-i.invariant.items);
}

pub returns-clause-items : goal.returns-clause-items
returns-clause-items c i w = let lt = c.loop-i.invariant.items i w in let end = c.loop-i.auto.i-end in omega arith
