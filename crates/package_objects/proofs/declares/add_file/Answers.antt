use Rattle.package_objects.specs.Declares.{declares_at}
use Rattle.package_objects.proofs.GatherLemmas.{gather_on}
use Rattle.package_objects.proofs.declares.add_file.Goals as goal

pub loop-n-preserved : goal.loop-n-preserved
loop-n-preserved c = gather_on (declares_at c.args.file c.args.nodes.now c.args.uses.now) c.loop-n.n c.args.out.now.items _ _ c.loop-n.invariant c.in_ok-add_at.ensures
