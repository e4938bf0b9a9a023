use Rattle.std.proofs.Common.{◌≡◌, ◌++◌}
use Rattle.package_objects.specs.Declares.{gather}
use Rattle.unit_read.specs.Methods.{methods_at}
use Rattle.unit_read.specs.Subjects.{unit_of}
use Rattle.unit_rows.proofs.methods.add_file.Given as goal

abbrev pub invariant-loop-n : goal.invariant-loop-n
invariant-loop-n l = l.out.items ≡ l.fn.out.items ++ gather (methods_at (unit_of l.s) l.file) l.n
