use Rattle.std.proofs.Common.{◌≡◌, take}
use Rattle.std.specs.List.{flat_map}
use Rattle.unit_read.specs.Subjects.{unit_of}
use Rattle.unit_rows.specs.Circular.{name_in}
use Rattle.unit_rows.proofs.circular.names_of.Given as goal

abbrev pub invariant-loop-method : goal.invariant-loop-method
invariant-loop-method l = l.out.items ≡ flat_map (name_in (unit_of l.s)) (take l.method-index l.methods)
