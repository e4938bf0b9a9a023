use Rattle.std.proofs.Common.{◌≡◌, take}
use Rattle.std.specs.List.{filter_map}
use Rattle.object_order.specs.Picks.{picked}
use Rattle.object_order.proofs.pick.pick_all.Given as goal

abbrev pub invariant-loop-k : goal.invariant-loop-k
invariant-loop-k l = l.list.items ≡ filter_map (picked l.found.items l.numbers l.flags.items) (take l.k l.order.items)
