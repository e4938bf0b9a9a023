use Rattle.std.proofs.Common.{◌≡◌, ◌++◌}
use Rattle.package_objects.specs.Declares.{gather}
use Rattle.unit_read.specs.Subjects.{unit_of}
use Rattle.unit_blocks.specs.Blocks.{again_by}
use Rattle.unit_blocks.proofs.again.add_inner.Given as goal

abbrev pub invariant-loop-file : goal.invariant-loop-file
invariant-loop-file l = l.out.items ≡ l.fn.out.items ++ gather (again_by (unit_of l.s) l.names) l.file
