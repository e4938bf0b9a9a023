use Rattle.std.proofs.Common.{arith, ◌-◌}
use Rattle.object_order.specs.Views.{world_of}
use Rattle.package_needs.proofs.LiteralLemmas.{typed_none, typed_more}
use Rattle.package_needs.proofs.keys.literals_in.Goals as goal

pub loop-left-init : goal.loop-left-init
loop-left-init c = typed_none (world_of c.args.view.now) c.args.view.now.trees.now c.args.file c.args.count _ c.requires.count c.in_ok-types.ensures

pub loop-left-preserved : goal.loop-left-preserved
loop-left-preserved c = typed_more (world_of c.args.view.now) c.args.view.now.trees.now c.args.file c.args.count c.loop-left.left (c.loop-left.left - 1) c.loop-left.types.items _ c.literal_at-of.result
    (let t = c.loop-left-test.true in omega arith) c.loop-left.invariant c.literal_at-of.ensures c.put.ensures

pub returns : goal.returns
returns c = λ n high. c.loop-left.invariant.known n (let t = c.loop-left-test.false in omega arith)
