use Rattle.std.proofs.Common.{◌≡◌, ◌++◌}
use Rattle.package_objects.specs.Declares.{gather, clause_types}
use Rattle.package_objects.proofs.switch.put_clauses.Given as goal

abbrev pub invariant-loop-i : goal.invariant-loop-i
invariant-loop-i l = l.roots.items ≡ l.fn.roots.items ++ gather (clause_types l.nodes l.switch) l.i
