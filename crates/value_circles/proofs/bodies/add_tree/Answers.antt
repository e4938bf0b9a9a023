use Rattle.package_objects.proofs.GatherLemmas.{gather_on}
use Rattle.value_circles.specs.Bodies.{nth_body}
use Rattle.value_circles.proofs.bodies.add_tree.Goals as goal

pub loop-i-preserved : goal.loop-i-preserved
loop-i-preserved c = gather_on (nth_body c.args.file c.args.tree.now) c.loop-i.i c.args.out.now.items _ _ c.loop-i.invariant c.in_ok-add_nth_body.ensures
