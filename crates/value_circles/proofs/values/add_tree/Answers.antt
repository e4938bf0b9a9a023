use Rattle.package_objects.proofs.GatherLemmas.{gather_on}
use Rattle.value_circles.specs.Values.{nth_top}
use Rattle.value_circles.proofs.values.add_tree.Goals as goal

pub loop-i-preserved : goal.loop-i-preserved
loop-i-preserved c = gather_on (nth_top c.args.file c.args.tree.now) c.loop-i.i c.args.out.now.items _ _ c.loop-i.invariant c.in_ok-add_nth_top.ensures
