use Rattle.std.proofs.Common.{◌≡◌, ◌++◌, Some, List, drop, map, take}
use Rattle.fact_cache.specs.declared.list.Entry.{Entry}
use Rattle.gv_driver.specs.Runs.{CanKeep}
use Rattle.gv_driver.proofs.keep.keep.Given as goal

abbrev pub invariant-loop-p : goal.invariant-loop-p
invariant-loop-p l = record {
  same : drop l.p l.entries.items ≡ drop l.p l.fn.entries.items;
  kept : (list : List Entry) → l.fn.entries.items ≡ map Some list → l.cache ≡ l.fn.cache ++ take l.p list;
}
