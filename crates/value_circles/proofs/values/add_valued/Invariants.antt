use Rattle.std.proofs.Common.{◌≡◌, ◌++◌}
use Rattle.package_objects.specs.Declares.{gather, part}
use Rattle.value_circles.specs.Values.{nth_entry}
use Rattle.value_circles.proofs.values.add_valued.Given as goal

abbrev pub invariant-loop-i : goal.invariant-loop-i
invariant-loop-i l = l.out.items ≡ l.fn.out.items ++ gather (nth_entry l.file l.nodes l.spec (part l.spec l.slot)) l.i
