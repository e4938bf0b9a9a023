use Rattle.package_objects.specs.Declares.{nth_parameter}
use Rattle.package_objects.proofs.GatherLemmas.{gather_on}
use Rattle.package_objects.proofs.parameters.add_all.Goals as goal

pub loop-i-preserved : goal.loop-i-preserved
loop-i-preserved c = gather_on (nth_parameter c.args.file c.args.nodes.now c.args.list.now) c.loop-i.i c.args.out.now.items _ _ c.loop-i.invariant c.in_ok-add_nth_parameter.ensures
