use Rattle.std.proofs.Common.{◌≡◌}
use Rattle.package_objects.specs.Declares.{items}
use Rattle.unit_read.specs.Subjects.{unit_of}
use Rattle.assign_rules.specs.Assigning.{any_new}
use Rattle.assign_rules.proofs.assigning.any_new.Given as goal

abbrev pub invariant-loop-i : goal.invariant-loop-i
invariant-loop-i l = l.found ≡ any_new (unit_of l.u) l.file (items l.nodes l.names) l.i
