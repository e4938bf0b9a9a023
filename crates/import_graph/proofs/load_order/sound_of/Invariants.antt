use Rattle.std.proofs.Common.{◌≡◌, take, map}
use Rattle.std.specs.List.{filter}
use Rattle.import_graph.specs.Orders.{is_sound_at}
use Rattle.import_graph.proofs.load_order.sound_of.Given as goal

abbrev pub invariant-loop-e : goal.invariant-loop-e
invariant-loop-e l = l.kept.items ≡ filter (is_sound_at l.packages) (map (λ e. e.vertex) (take l.e-index l.needed))
