use Rattle.std.proofs.Common.{◌≡◌, ◌++◌, Some, drop, map}
use Rattle.gv_driver.specs.Entries.{all_entries}
use Rattle.gv_driver.proofs.keep.entries_of.Given as goal

abbrev pub invariant-loop-node : goal.invariant-loop-node
invariant-loop-node l = l.entries.items ++ map Some (all_entries (drop l.node-index l.table)) ≡ map Some (all_entries l.table)
