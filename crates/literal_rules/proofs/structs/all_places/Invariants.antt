use Rattle.std.proofs.Common.{◌≡◌, map}
use Rattle.package_objects.specs.Declares.{gather}
use Rattle.unit_read.specs.Subjects.{unit_of}
use Rattle.literal_rules.specs.Structs.{field_row}
use Rattle.literal_rules.specs.InCode.{field_in}
use Rattle.literal_rules.proofs.structs.all_places.Given as goal

abbrev pub invariant-loop-i : goal.invariant-loop-i
invariant-loop-i l = l.out.items ≡ gather (field_row (unit_of l.u) l.file (map (field_in l.s) l.fields) l.nodes l.v) l.i
