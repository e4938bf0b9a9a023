use Rattle.std.proofs.Common.{◌≡◌, ◌<◌, ℕ, length, take, get_or, false}
use Rattle.import_graph.specs.Tables.{says_cyclic}
use Rattle.import_graph.proofs.cycles.flags_of.Given as goal

abbrev pub invariant-loop-e : goal.invariant-loop-e
invariant-loop-e l = (length l.flags.items ≡ l.count) × ((k : ℕ) → k < l.count → get_or l.flags.items k false ≡ says_cyclic k (take l.e-index l.needed))
