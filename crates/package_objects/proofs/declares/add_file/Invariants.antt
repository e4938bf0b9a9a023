use Rattle.std.proofs.Common.{◌≡◌, ◌++◌}
use Rattle.package_objects.specs.Declares.{gather, declares_at}
use Rattle.package_objects.proofs.declares.add_file.Given as goal

abbrev pub invariant-loop-n : goal.invariant-loop-n
invariant-loop-n l = l.out.items ≡ l.fn.out.items ++ gather (declares_at l.file l.nodes l.uses) l.n
