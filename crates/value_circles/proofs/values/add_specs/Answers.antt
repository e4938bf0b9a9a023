use Rattle.package_objects.proofs.GatherLemmas.{gather_on}
use Rattle.value_circles.specs.Values.{nth_spec}
use Rattle.value_circles.proofs.values.add_specs.Goals as goal

pub loop-i-preserved : goal.loop-i-preserved
loop-i-preserved c = gather_on (nth_spec c.args.file c.args.nodes.now c.args.node.now) c.loop-i.i c.args.out.now.items _ _ c.loop-i.invariant c.in_ok-add_nth_spec.ensures
