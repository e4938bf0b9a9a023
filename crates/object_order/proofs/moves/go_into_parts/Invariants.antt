use Rattle.std.proofs.Common.{◌≡◌, ◌++◌, take, flat_map}
use Rattle.object_order.specs.Trimmed.{trimmed_down}
use Rattle.object_order.specs.Quiet.{quiet_at}
use Rattle.object_order.specs.Views.{world_of}
use Rattle.object_order.proofs.moves.go_into_parts.Given as goal

abbrev pub invariant-loop-part : goal.invariant-loop-part
invariant-loop-part l = l.row.items ≡ l.fn.row.items ++ flat_map (trimmed_down (quiet_at l.quiet.items) (world_of l.view) l.spot l.node) (take l.part-index l.node.parts)
