use Rattle.std.proofs.Common.{◌≤◌}
use Rattle.unit_read.proofs.entries.room_for.Given as goal

abbrev pub invariant-loop-n : goal.invariant-loop-n
invariant-loop-n g l = record { few : l.room ≤ l.n }
