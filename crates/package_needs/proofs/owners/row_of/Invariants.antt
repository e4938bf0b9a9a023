use Rattle.object_order.specs.Views.{world_of}
use Rattle.package_needs.specs.Keys.{IsRowBy}
use Rattle.package_needs.specs.Kin.{IsOwnerAt}
use Rattle.package_needs.proofs.owners.row_of.Given as goal

abbrev pub invariant-loop-node : goal.invariant-loop-node
invariant-loop-node l = IsRowBy (IsOwnerAt (world_of l.view)) l.file l.row.items l.node
