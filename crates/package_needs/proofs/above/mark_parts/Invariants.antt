use Rattle.std.proofs.Common.{◌&&◌, nat_eq, take}
use Rattle.std.proofs.Math.Dec.{ltb}
use Rattle.std.specs.List.{list_any}
use Rattle.package_needs.specs.Keys.{Marks}
use Rattle.package_needs.proofs.above.mark_parts.Given as goal

abbrev pub invariant-loop-part : goal.invariant-loop-part
invariant-loop-part l = Marks l.fn.table.items l.table.items l.n (λ p. ltb p l.n && list_any (λ q. nat_eq q p) (take l.part-index l.parts))
