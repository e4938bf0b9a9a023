use Rattle.std.proofs.Common.{◌≡◌, ◌++◌}
use Rattle.package_objects.specs.Declares.{gather, nth_parameter}
use Rattle.package_objects.proofs.parameters.add_all.Given as goal

abbrev pub invariant-loop-i : goal.invariant-loop-i
invariant-loop-i l = l.out.items ≡ l.fn.out.items ++ gather (nth_parameter l.file l.nodes l.list) l.i
