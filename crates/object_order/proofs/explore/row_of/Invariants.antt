use Rattle.std.proofs.Common.{take}
use Rattle.object_order.specs.Searches.{Finds, IsRowOf}
use Rattle.object_order.proofs.explore.row_of.Given as goal

abbrev pub invariant-loop-k : goal.invariant-loop-k
invariant-loop-k l = record {
  finds : Finds l.numbers l.fn.found.items l.found.items (take l.k l.these.items);
  row : IsRowOf l.found.items l.row.items (take l.k l.these.items);
}
