use Rattle.std.proofs.Common.{◌≡◌}
use Rattle.package_objects.specs.Declares.{gather}
use Rattle.unit_rows.specs.Circular.{nth_value}
use Rattle.unit_rows.proofs.circular.values_of.Given as goal

abbrev pub invariant-loop-k : goal.invariant-loop-k
invariant-loop-k l = l.out.items ≡ gather (nth_value l.numbers l.entries.items) l.k
