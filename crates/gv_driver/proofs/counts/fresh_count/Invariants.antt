use Rattle.std.proofs.Common.{◌≡◌, ◌≤◌, length, take}
use Rattle.gv_driver.specs.Tables.{fresh_runs}
use Rattle.gv_driver.proofs.counts.fresh_count.Given as goal

abbrev pub invariant-loop-run : goal.invariant-loop-run
invariant-loop-run l = record { sums : l.count ≡ length (fresh_runs (take l.run-index l.runs)); small : l.count ≤ l.run-index }
