use Rattle.std.proofs.Common.{◌≡◌, map, take}
use Rattle.object_order.specs.Spots.{place}
use Rattle.unit_rows.proofs.repeats.nodes_of.Given as goal

abbrev pub invariant-loop-member : goal.invariant-loop-member
invariant-loop-member l = l.nodes.items ≡ map (place l.file) (take l.member-index l.members)
