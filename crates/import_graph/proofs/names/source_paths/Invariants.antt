use Rattle.std.proofs.Common.{◌≡◌, ◌≤◌, length, take}
use Rattle.import_graph.specs.Tables.{source_paths}
use Rattle.import_graph.proofs.names.source_paths.Given as goal

abbrev pub invariant-loop-home : goal.invariant-loop-home
invariant-loop-home l = (l.paths.items ≡ source_paths (take l.home-index l.homes)) × (length l.paths.items ≤ l.home-index)
