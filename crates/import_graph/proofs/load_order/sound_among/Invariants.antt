use Rattle.std.proofs.Common.{◌≡◌, take}
use Rattle.std.specs.List.{filter}
use Rattle.import_graph.specs.Orders.{is_sound_at}
use Rattle.import_graph.proofs.load_order.sound_among.Given as goal

abbrev pub invariant-loop-n : goal.invariant-loop-n
invariant-loop-n l = l.kept.items ≡ filter (is_sound_at l.packages) (take l.n-index l.numbers)
