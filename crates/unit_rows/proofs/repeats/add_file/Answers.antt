use Rattle.package_objects.proofs.GatherLemmas.{gather_on}
use Rattle.unit_read.specs.Members.{repeats_at}
use Rattle.unit_read.specs.Subjects.{unit_of}
use Rattle.unit_rows.proofs.repeats.add_file.Goals as goal

pub loop-n-preserved : goal.loop-n-preserved
loop-n-preserved c = gather_on (repeats_at (unit_of c.args.s.now) c.args.file) c.loop-n.n c.args.out.now.items _ _ c.loop-n.invariant c.in_ok-add_at.ensures
