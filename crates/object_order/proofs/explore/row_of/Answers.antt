use Rattle.std.proofs.Common.{arith}
use Rattle.object_order.proofs.SearchLemmas.{finds_itself, finds_more, finds_same, row_more, row_none, row_whole, take_at, take_whole}
use Rattle.object_order.proofs.explore.row_of.Goals as goal

pub loop-k-preserved : goal.loop-k-preserved
loop-k-preserved c = record {
  finds = finds_more _ _ _ _ _ _ _ _ c.loop-k.invariant.finds c.in_ok-number.ensures.finds (take_at c.args.these.now.items c.loop-k.k _ c.spot_in-spot.ensures);
  row = row_more _ _ _ _ _ _ _ _ _ c.in_ok-number.ensures.finds c.loop-k.invariant.row c.in_ok-number.ensures.number c.in_ok-push.ensures.items
      (take_at c.args.these.now.items c.loop-k.k _ c.spot_in-spot.ensures);
}

pub loop-k-init : goal.loop-k-init
loop-k-init c = record { finds = finds_itself c.args.numbers.now c.args.found.now.items _ c.requires; row = row_none c.args.found.now.items _ c.clear.ensures.items }

pub returns : goal.returns
returns c = record {
  finds = finds_same _ _ _ _ _ c.loop-k.invariant.finds
      (take_whole c.args.these.now.items c.loop-k.k (let e = c.height-end.ensures.value in let t = c.loop-k-test.false in omega arith));
  row = row_whole _ _ c.args.these.now.items c.loop-k.k (let e = c.height-end.ensures.value in let t = c.loop-k-test.false in omega arith) c.loop-k.invariant.row;
}
