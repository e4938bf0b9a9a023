use Rattle.std.proofs.Common.{◌≡◌, ◌++◌, Some, drop, map}
use Rattle.gv_driver.specs.Entries.{run_entries}
use Rattle.gv_driver.proofs.keep.push_runs.Given as goal

abbrev pub invariant-loop-run : goal.invariant-loop-run
invariant-loop-run l = l.entries.items ++ map Some (run_entries (drop l.run-index l.runs)) ≡ l.initial.entries.items ++ map Some (run_entries l.runs)
