use Rattle.std.proofs.Common.{◌≡◌, ◌++◌}
use Rattle.package_objects.specs.Declares.{gather, items}
use Rattle.go_rules.specs.Slots.{nth_read}
use Rattle.go_rules.proofs.reads.add_items.Given as goal

abbrev pub invariant-loop-i : goal.invariant-loop-i
invariant-loop-i l = l.out.items ≡ l.fn.out.items ++ gather (nth_read l.how (items l.nodes l.part)) l.i
