use Rattle.std.proofs.Common.{arith}
use Rattle.object_order.proofs.NumberLemmas.{named_none, named_more, named_all}
use Rattle.object_order.proofs.number.numbers_of.Goals as goal

pub loop-k-init : goal.loop-k-init
loop-k-init c = named_none c.args.entries.now.items _ c.new-numbers.ensures.empty

pub loop-k-preserved : goal.loop-k-preserved
loop-k-preserved c = named_more c.args.entries.now.items c.loop-k.numbers _ _ c.loop-k.k c.loop-k.invariant c.name_key-key.ensures c.in_ok-add_name.ensures

pub returns : goal.returns
returns c = named_all c.args.entries.now.items _ c.loop-k.k (let e = c.count-end.ensures in let t = c.loop-k-test.false in omega arith) c.loop-k.invariant
