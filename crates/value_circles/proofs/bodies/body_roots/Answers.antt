use Rattle.package_objects.proofs.GatherLemmas.{gather_more}
use Rattle.value_circles.specs.Bodies.{nth_block}
use Rattle.value_circles.proofs.bodies.body_roots.Goals as goal

pub loop-i-preserved : goal.loop-i-preserved
loop-i-preserved c = gather_more (nth_block c.args.nodes.now c.args.node.now) c.loop-i.i _ _ c.loop-i.invariant c.in_ok-add_nth_block.ensures
