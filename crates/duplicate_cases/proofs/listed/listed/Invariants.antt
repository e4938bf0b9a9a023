use Rattle.std.proofs.Common.{◌≡◌}
use Rattle.package_objects.specs.Declares.{gather}
use Rattle.duplicate_cases.specs.Duplicates.{nth_listed}
use Rattle.duplicate_cases.proofs.listed.listed.Given as goal

abbrev pub invariant-loop-i : goal.invariant-loop-i
invariant-loop-i l = l.list.items ≡ gather (nth_listed l.nodes l.switch) l.i
