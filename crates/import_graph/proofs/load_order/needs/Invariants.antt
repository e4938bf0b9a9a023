use Rattle.std.proofs.Common.{◌≡◌, take, map}
use Rattle.import_graph.specs.Orders.{needs_of}
use Rattle.import_graph.proofs.load_order.needs.Given as goal

abbrev pub invariant-loop-pack : goal.invariant-loop-pack
invariant-loop-pack l = l.graph ≡ map (needs_of l.packages) (take l.pack-index l.packages)
