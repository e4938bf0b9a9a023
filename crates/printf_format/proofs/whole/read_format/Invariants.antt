use Rattle.std.proofs.Common.{◌≤◌, ◌+◌, ◌*◌, ◌-◌, length}
use Rattle.printf_format.proofs.Readings.{Completes}
use Rattle.printf_format.proofs.whole.read_format.Given as goal

abbrev pub invariant-loop-list : goal.invariant-loop-list
invariant-loop-list l = record {
  within : l.at ≤ length l.text;
  small : l.next ≤ 100000 + 3 * l.at;
  completes : Completes l.text l.at l.next l.list.items;
}

abbrev pub decreases-loop-list : goal.decreases-loop-list
decreases-loop-list l = length l.text - l.at
