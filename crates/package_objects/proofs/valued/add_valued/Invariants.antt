use Rattle.std.proofs.Common.{◌≡◌, ◌++◌}
use Rattle.package_objects.specs.Declares.{gather, valued_name}
use Rattle.package_objects.proofs.valued.add_valued.Given as goal

abbrev pub invariant-loop-i : goal.invariant-loop-i
invariant-loop-i l = l.out.items ≡ l.fn.out.items ++ gather (valued_name l.file l.nodes l.uses l.v l.names) l.i
