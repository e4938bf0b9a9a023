use Rattle.std.proofs.Common.{◌≡◌, map, take}
use Rattle.unit_read.specs.Subjects.{unit_of}
use Rattle.unit_rows.proofs.methods.owners_of.Given as goal

abbrev pub invariant-loop-method : goal.invariant-loop-method
invariant-loop-method l = l.out.items ≡ map (unit_of l.s).owner (take l.method-index l.methods)
