use Rattle.std.proofs.Common.{replicate, None, arith, ◌∙◌, ap}
use Rattle.package_needs.proofs.CircleLemmas.{settled_none, settled_more, settled_all}
use Rattle.package_needs.proofs.ends.settle_all.Goals as goal

pub loop-k-init : goal.loop-k-init
loop-k-init c = settled_none c.args.links.now.items c.args.order.now.items _ (c.in_ok-table.ensures ∙ ap (λ n. replicate n None) c.size.ensures)

pub settle-requires : goal.settle-requires
settle-requires c = let h = c.requires.within c.loop-k.k c.item_at.result c.item_at.ensures in let s = c.loop-k.invariant.size in omega arith

pub loop-k-preserved : goal.loop-k-preserved
loop-k-preserved c = settled_more c.args.links.now.items c.args.order.now.items c.loop-k.table.items _ c.loop-k.k c.item_at.result c.requires c.item_at.ensures c.loop-k.invariant c.settle.ensures

pub returns : goal.returns
returns c = settled_all c.args.links.now.items c.args.order.now.items c.loop-k.table.items c.loop-k.k c.requires (let e = c.height-end.ensures in let t = c.loop-k-test.false in omega arith) c.loop-k.invariant
