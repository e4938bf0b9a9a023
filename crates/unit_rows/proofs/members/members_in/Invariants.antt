use Rattle.std.proofs.Common.{◌≡◌}
use Rattle.package_objects.specs.Declares.{gather}
use Rattle.unit_read.specs.Members.{nth_members}
use Rattle.unit_rows.proofs.members.members_in.Given as goal

abbrev pub invariant-loop-i : goal.invariant-loop-i
invariant-loop-i l = l.out.items ≡ gather (nth_members l.nodes l.node) l.i
