use Rattle.package_objects.proofs.GatherLemmas.{gather_on}
use Rattle.unit_read.specs.Methods.{methods_at}
use Rattle.unit_read.specs.Subjects.{unit_of}
use Rattle.unit_rows.proofs.methods.add_file.Goals as goal

pub loop-n-preserved : goal.loop-n-preserved
loop-n-preserved c = gather_on (methods_at (unit_of c.args.s.now) c.args.file) c.loop-n.n c.args.out.now.items _ _ c.loop-n.invariant c.in_ok-add_at.ensures
