use Rattle.package_objects.specs.Declares.{nth_params}
use Rattle.package_objects.proofs.GatherLemmas.{gather_on}
use Rattle.package_objects.proofs.parameters.add_lists.Goals as goal

pub loop-i-preserved : goal.loop-i-preserved
loop-i-preserved c = gather_on (nth_params c.args.file c.args.nodes.now c.args.function.now) c.loop-i.i c.args.out.now.items _ _ c.loop-i.invariant c.in_ok-add_nth_list.ensures
