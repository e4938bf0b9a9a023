use Rattle.std.proofs.Common.{◌≡◌, ◌≤◌, ◌-◌, length}
use Rattle.scopes.specs.Visible.{Reached}
use Rattle.scopes.proofs.visible.advance.Given as goal

abbrev pub invariant-loop-next : goal.invariant-loop-next
invariant-loop-next l = record {
  size : length l.visible.items ≡ length l.fn.visible.items;
  within : l.next ≤ length l.declarations;
  reached : Reached l.declarations l.next l.at l.visible.items;
}

abbrev pub decreases-loop-next : goal.decreases-loop-next
decreases-loop-next l = length l.declarations - l.next
