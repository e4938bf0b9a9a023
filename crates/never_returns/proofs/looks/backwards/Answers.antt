use Rattle.std.proofs.Common.{◌-◌, length, arith}
use Rattle.never_returns.proofs.LookLemmas.{no_vertices, one_vertex}
use Rattle.never_returns.proofs.looks.backwards.Goals as goal

pub loop-left-init : goal.loop-left-init
loop-left-init c = record { low = omega arith; are = no_vertices c.args.order.now c.new-found.result.items c.new-found.ensures.items }

pub item_at-item-requires : goal.item_at-item-requires
item_at-item-requires c =
    let low = c.loop-left.invariant.low in
    let some = c.loop-left-test.true in
    omega arith

pub loop-left-preserved : goal.loop-left-preserved
loop-left-preserved c =
    let low = c.loop-left.invariant.low in
    let some = c.loop-left-test.true in
    record {
      low = omega arith;
      are = one_vertex c.args.order.now (c.loop-left.left - 1) c.item_at-item.result c.loop-left.found.items c.push.new.self.items c.item_at-item.ensures c.in_ok-push.ensures.items c.loop-left.invariant.are;
    }
