use Rattle.package_objects.proofs.GatherLemmas.{gather_on}
use Rattle.unit_read.specs.Subjects.{unit_of}
use Rattle.unit_blocks.specs.Blocks.{again_by}
use Rattle.unit_rows.proofs.ListLemmas.{small_at}
use Rattle.unit_blocks.proofs.again.add_inner.Goals as goal

pub add_by-requires-clause-few : goal.add_by-requires-clause-few
add_by-requires-clause-few c = small_at c.args.s.now.trees.now c.requires.small c.loop-file.file

pub loop-file-preserved : goal.loop-file-preserved
loop-file-preserved c = gather_on (again_by (unit_of c.args.s.now) c.args.names.now) c.loop-file.file c.args.out.now.items _ _ c.loop-file.invariant c.in_ok-add_by.ensures
