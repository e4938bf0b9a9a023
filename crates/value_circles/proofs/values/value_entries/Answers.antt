use Rattle.package_objects.proofs.GatherLemmas.{gather_more}
use Rattle.value_circles.specs.Values.{file_entries}
use Rattle.value_circles.proofs.values.value_entries.Goals as goal

pub loop-file-preserved : goal.loop-file-preserved
loop-file-preserved c = gather_more (file_entries c.args.trees.now) c.loop-file.file _ _ c.loop-file.invariant c.in_ok-add_file.ensures
