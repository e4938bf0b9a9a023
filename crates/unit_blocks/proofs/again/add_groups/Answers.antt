use Rattle.package_objects.proofs.GatherLemmas.{gather_on}
use Rattle.unit_read.specs.Subjects.{unit_of}
use Rattle.unit_blocks.specs.Blocks.{again_at}
use Rattle.unit_blocks.proofs.again.add_groups.Goals as goal

pub loop-n-preserved : goal.loop-n-preserved
loop-n-preserved c = gather_on (again_at (unit_of c.args.s.now) c.args.groups.now) c.loop-n.n c.args.out.now.items _ _ c.loop-n.invariant c.in_ok-add_group.ensures
