use Rattle.std.proofs.Common.{◌≡◌}
use Rattle.package_objects.specs.Declares.{gather}
use Rattle.unit_read.specs.Methods.{methods_in}
use Rattle.unit_read.specs.Subjects.{unit_of}
use Rattle.unit_rows.proofs.methods.all_methods.Given as goal

abbrev pub invariant-loop-file : goal.invariant-loop-file
invariant-loop-file l = l.out.items ≡ gather (methods_in (unit_of l.s)) l.file
