use Rattle.package_objects.specs.Declares.{declared_by}
use Rattle.package_objects.proofs.GatherLemmas.{gather_more}
use Rattle.package_objects.proofs.files.entries_of.Goals as goal

pub loop-file-preserved : goal.loop-file-preserved
loop-file-preserved c = gather_more (declared_by c.args.trees.now c.args.meant.now) c.loop-file.file _ _ c.loop-file.invariant c.in_ok-add_tree.ensures
