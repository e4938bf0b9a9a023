use Rattle.std.proofs.Common.{arith}
use Rattle.object_order.specs.Views.{world_of}
use Rattle.package_needs.proofs.LinkLemmas.{links_none, links_more, links_all}
use Rattle.package_needs.proofs.ends.links_of.Goals as goal

pub loop-entry-init : goal.loop-entry-init
loop-entry-init c = links_none (world_of c.args.view.now) c.args.view.now.entries.items c.args.far _ c.new-links.ensures.items

pub loop-entry-preserved : goal.loop-entry-preserved
loop-entry-preserved c = links_more (world_of c.args.view.now) c.args.view.now.entries.items c.args.far c.loop-entry.links.items _ c.loop-entry.entry-index c.entry-item.result c.link_of.result
    c.loop-entry.invariant (let e = c.deref-entry-items.ensures.len in let t = c.loop-entry-test.true in omega arith) (rw c.deref-entry-items.ensures.value at c.entry-item.is) c.link_of.ensures c.in_ok-push.ensures.items

pub returns : goal.returns
returns c = links_all (world_of c.args.view.now) c.args.view.now.entries.items c.args.far _ c.loop-entry.entry-index
    (let e = c.deref-entry-items.ensures.len in let t = c.loop-entry-test.false in let s = c.loop-entry.auto.entry-index-end in omega arith) c.loop-entry.invariant
