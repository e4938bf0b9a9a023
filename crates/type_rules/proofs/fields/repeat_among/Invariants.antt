use Rattle.std.proofs.Common.{◌≡◌}
use Rattle.package_objects.specs.Declares.{items}
use Rattle.unit_read.specs.Subjects.{unit_of}
use Rattle.type_rules.specs.Structs.{repeat_among}
use Rattle.type_rules.proofs.fields.repeat_among.Given as goal

abbrev pub invariant-loop-i : goal.invariant-loop-i
invariant-loop-i l = l.found ≡ repeat_among (unit_of l.u) l.file (items l.nodes l.names) l.i
