use Rattle.std.proofs.Common.{◌<◌, ℕ}
use Rattle.std.specs.List.{Contains}
use Rattle.least.proofs.queue.all_items.Given as goal

abbrev pub invariant-loop-i : goal.invariant-loop-i
invariant-loop-i l = record {
  each : (i : ℕ) → i < l.i → Contains l.items.items i;
  items : (i : ℕ) → Contains l.items.items i → i < l.i;
}
