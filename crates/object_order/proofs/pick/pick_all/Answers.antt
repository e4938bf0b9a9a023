use Rattle.std.proofs.Common.{arith, ap, ◌∙◌}
use Rattle.std.specs.List.{filter_map}
use Rattle.object_order.specs.Picks.{picked}
use Rattle.object_order.proofs.SearchLemmas.{take_whole}
use Rattle.object_order.proofs.FlagLemmas.{picked_more}
use Rattle.object_order.proofs.pick.pick_all.Goals as goal

pub loop-k-preserved : goal.loop-k-preserved
loop-k-preserved c =
    picked_more (picked c.args.found.now.items c.args.numbers.now c.args.flags.now.items) c.args.order.now.items c.loop-k.k c.item_at-item.result c.pick-one.result c.loop-k.list.items _
    c.item_at-item.ensures c.pick-one.ensures c.loop-k.invariant c.in_ok-put.ensures

pub returns : goal.returns
returns c = c.loop-k.invariant ∙ ap (filter_map (picked c.args.found.now.items c.args.numbers.now c.args.flags.now.items))
    (take_whole c.args.order.now.items c.loop-k.k (let e = c.items-end.ensures in let t = c.loop-k-test.false in omega arith))
