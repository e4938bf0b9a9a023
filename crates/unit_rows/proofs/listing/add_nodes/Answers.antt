use Rattle.package_objects.proofs.GatherLemmas.{gather_on}
use Rattle.unit_read.specs.Units.{defined_at}
use Rattle.unit_rows.proofs.listing.add_nodes.Goals as goal

pub loop-n-preserved : goal.loop-n-preserved
loop-n-preserved c = gather_on (defined_at c.args.file c.args.nodes.now) c.loop-n.n c.args.out.now.items _ _ c.loop-n.invariant c.in_ok-add_at.ensures
