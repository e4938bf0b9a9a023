use Rattle.std.proofs.Common.{◌≡◌, ◌++◌, take, flat_map}
use Rattle.object_order.specs.Spots.{to_kin}
use Rattle.object_order.specs.Views.{world_of}
use Rattle.object_order.proofs.moves.go_to_all.Given as goal

abbrev pub invariant-loop-at : goal.invariant-loop-at
invariant-loop-at l = l.row.items ≡ l.fn.row.items ++ flat_map (to_kin (world_of l.view) l.mode) (take l.at-index l.kin)
