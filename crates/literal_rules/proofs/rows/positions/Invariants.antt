use Rattle.std.proofs.Common.{◌≡◌, ◌≤◌, ◌+◌, IfSome}
use Rattle.package_objects.specs.Declares.{gather}
use Rattle.literal_rules.specs.Rows.{position_row, next_after}
use Rattle.literal_rules.specs.InCode.{keys_in}
use Rattle.literal_rules.proofs.rows.positions.Given as goal

abbrev pub invariant-loop-i : goal.invariant-loop-i
invariant-loop-i l = record {
  items : l.out.items ≡ gather (position_row (keys_in l.s l.keys)) l.i;
  next : l.next ≡ next_after (keys_in l.s l.keys) l.i;
  small : IfSome l.next (λ p. p ≤ 9223372036854775807 + l.i);
}
