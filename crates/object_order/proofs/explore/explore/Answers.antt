use Rattle.std.proofs.Common.{arith}
use Rattle.object_order.specs.Quiet.{quiet_at}
use Rattle.object_order.specs.Trimmed.{trimmed_moves}
use Rattle.object_order.specs.Views.{world_of}
use Rattle.object_order.proofs.SearchLemmas.{numbered_none, goes_first, goes_on, goes_all}
use Rattle.object_order.proofs.explore.explore.Goals as goal

pub row_of-requires : goal.row_of-requires
row_of-requires c = numbered_none c.in_ok-numbers.numbers c.new-found.result.items c.in_ok-numbers.ensures c.new-found.ensures.items

pub loop-done-init : goal.loop-done-init
loop-done-init c =
    goes_first (trimmed_moves (quiet_at c.args.quiet.now.items) (world_of c.args.view.now)) c.args.seeds.now.items c.row_of.new.found.items c.new-found.result.items c.row_of.new.numbers _ c.in_ok-graph.graph
    c.new-found.ensures.items c.in_ok-row_of.ensures.finds c.in_ok-row_of.ensures.row c.in_ok-graph.ensures

pub loop-done-preserved : goal.loop-done-preserved
loop-done-preserved c =
    goes_on (trimmed_moves (quiet_at c.args.quiet.now.items) (world_of c.args.view.now)) c.args.seeds.now.items c.loop-done.found.items c.add_row.new.found.items c.loop-done.numbers c.add_row.new.numbers
    c.loop-done.graph c.in_ok-graph-2.graph c.loop-done.done c.spot_in-spot.result c.loop-done.invariant
    (let e = c.height.ensures.value in let t = c.loop-done-test.true in omega arith) c.spot_in-spot.ensures c.in_ok-graph-2.ensures.finds c.in_ok-graph-2.ensures.row

pub loop-done-smaller : goal.loop-done-smaller
loop-done-smaller c = (let e = c.height.ensures.value in let t = c.loop-done-test.true in let f = c.loop-done.invariant.numbered.few in omega arith)

pub returns : goal.returns
returns c =
    goes_all (trimmed_moves (quiet_at c.args.quiet.now.items) (world_of c.args.view.now)) c.args.seeds.now.items c.loop-done.found.items c.loop-done.numbers c.loop-done.graph c.loop-done.done c.loop-done.invariant
    (let e = c.height.ensures.value in let t = c.loop-done-test.false in omega arith)
