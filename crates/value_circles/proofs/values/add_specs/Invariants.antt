use Rattle.std.proofs.Common.{◌≡◌, ◌++◌}
use Rattle.package_objects.specs.Declares.{gather, part}
use Rattle.value_circles.specs.Values.{nth_spec}
use Rattle.value_circles.proofs.values.add_specs.Given as goal

abbrev pub invariant-loop-i : goal.invariant-loop-i
invariant-loop-i l = l.out.items ≡ l.fn.out.items ++ gather (nth_spec l.file l.nodes l.node) l.i
