use Rattle.package_objects.specs.Declares.{valued_name}
use Rattle.package_objects.proofs.GatherLemmas.{gather_on}
use Rattle.package_objects.proofs.valued.add_valued.Goals as goal

pub loop-i-preserved : goal.loop-i-preserved
loop-i-preserved c = gather_on (valued_name c.args.file c.args.nodes.now c.args.uses.now c.args.v c.args.names) c.loop-i.i c.args.out.now.items _ _ c.loop-i.invariant c.in_ok-add_valued_name.ensures
