use Rattle.package_objects.specs.Declares.{switch_part}
use Rattle.package_objects.proofs.GatherLemmas.{gather_on}
use Rattle.package_objects.proofs.switch.add_switch.Goals as goal

pub loop-i-preserved : goal.loop-i-preserved
loop-i-preserved c = gather_on (switch_part c.args.file c.args.nodes.now c.args.switch.now) c.loop-i.i c.args.out.now.items _ _ c.loop-i.invariant c.in_ok-add_switch_part.ensures
