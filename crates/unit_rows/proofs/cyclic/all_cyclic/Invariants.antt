use Rattle.std.proofs.Common.{◌≡◌}
use Rattle.package_objects.specs.Declares.{gather}
use Rattle.unit_rows.specs.Cyclic.{nth_cyclic}
use Rattle.unit_rows.proofs.cyclic.all_cyclic.Given as goal

abbrev pub invariant-loop-i : goal.invariant-loop-i
invariant-loop-i l = l.out.items ≡ gather (nth_cyclic l.order) l.i
