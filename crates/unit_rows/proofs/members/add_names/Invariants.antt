use Rattle.std.proofs.Common.{◌≡◌, ◌++◌, take}
use Rattle.package_objects.specs.Declares.{items}
use Rattle.unit_rows.proofs.members.add_names.Given as goal

abbrev pub invariant-loop-i : goal.invariant-loop-i
invariant-loop-i l = l.out.items ≡ l.fn.out.items ++ take l.i (items l.nodes l.names)
