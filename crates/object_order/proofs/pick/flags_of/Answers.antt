use Rattle.std.proofs.Common.{arith}
use Rattle.object_order.proofs.FlagLemmas.{set_none, set_more, set_all}
use Rattle.object_order.proofs.pick.flags_of.Goals as goal

pub loop-k-init : goal.loop-k-init
loop-k-init c = set_none c.args.order.now.items _ _ c.in_ok-flags.ensures

pub set_flag-requires : goal.set_flag-requires
set_flag-requires c =
    let h = c.requires.within c.loop-k.k c.item_at-item.result c.item_at-item.ensures in let s = c.loop-k.invariant.size in omega arith

pub loop-k-preserved : goal.loop-k-preserved
loop-k-preserved c =
    set_more c.args.order.now.items c.loop-k.flags.items _ c.args.count c.loop-k.k c.item_at-item.result c.requires.once c.item_at-item.ensures
    (c.requires.within c.loop-k.k c.item_at-item.result c.item_at-item.ensures) c.loop-k.invariant c.set_flag.ensures

pub returns : goal.returns
returns c = set_all c.args.order.now.items c.loop-k.flags.items c.args.count c.loop-k.k (let e = c.items-end.ensures in let t = c.loop-k-test.false in omega arith) c.loop-k.invariant
