use Rattle.std.specs.Prelude.{◌≤◌}
use Rattle.const_tree.specs.Constants.{values_of}
use Rattle.check_pkg.specs.Faults.{value_before}
use Rattle.check_pkg.proofs.places.value_from.Given as goal

abbrev pub invariant-loop-value : goal.invariant-loop-value
invariant-loop-value l = l.value ≤ value_before (values_of l.nodes l.spec) l.node
