use Rattle.std.proofs.Common.{◌≡◌}
use Rattle.package_objects.specs.Declares.{gather}
use Rattle.type_rules.specs.Joining.{nth_reads}
use Rattle.type_rules.proofs.joining.others.Given as goal

abbrev pub invariant-loop-j : goal.invariant-loop-j
invariant-loop-j l = l.out.items ≡ gather (nth_reads l.nodes l.around l.i) l.j
