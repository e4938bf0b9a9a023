use Rattle.std.proofs.Common.{◌≡◌, ◌++◌}
use Rattle.package_objects.specs.Declares.{gather}
use Rattle.unit_read.specs.Subjects.{unit_of}
use Rattle.unit_blocks.specs.Blocks.{again_at}
use Rattle.unit_blocks.proofs.again.add_groups.Given as goal

abbrev pub invariant-loop-n : goal.invariant-loop-n
invariant-loop-n l = l.out.items ≡ l.fn.out.items ++ gather (again_at (unit_of l.s) l.groups) l.n
