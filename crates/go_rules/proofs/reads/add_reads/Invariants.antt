use Rattle.std.proofs.Common.{◌≡◌}
use Rattle.package_objects.specs.Declares.{gather}
use Rattle.go_rules.specs.Families.{family}
use Rattle.go_rules.specs.Slots.{nth_slot}
use Rattle.go_rules.proofs.reads.add_reads.Given as goal

abbrev pub invariant-loop-slot : goal.invariant-loop-slot
invariant-loop-slot l = l.out.items ≡ gather (nth_slot (family l.node.kind) l.nodes l.node) l.slot
