use Rattle.std.proofs.Common.{◌≡◌, length}
use Rattle.gv_driver.specs.Waves.{AllDone, AllWithin, put_all}
use Rattle.gv_driver.proofs.wave.put_each.Given as goal

abbrev pub invariant-loop-one : goal.invariant-loop-one
invariant-loop-one l = record {
  put : put_all l.table.items l.one-iterator.rest.items ≡ put_all l.fn.table.items l.fn.made.items;
  within : AllWithin (length l.table.items) l.one-iterator.rest.items;
  done : AllDone l.one-iterator.rest.items → AllDone l.fn.made.items;
  undone : AllDone l.fn.made.items → AllDone l.one-iterator.rest.items;
}
