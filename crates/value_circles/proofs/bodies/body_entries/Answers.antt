use Rattle.package_objects.proofs.GatherLemmas.{gather_more}
use Rattle.value_circles.specs.Bodies.{file_bodies}
use Rattle.value_circles.proofs.bodies.body_entries.Goals as goal

pub loop-file-preserved : goal.loop-file-preserved
loop-file-preserved c = gather_more (file_bodies c.args.trees.now) c.loop-file.file _ _ c.loop-file.invariant c.in_ok-add_file.ensures
