use Rattle.std.proofs.Common.{◌≡◌, ◌++◌, take, flat_map}
use Rattle.std.specs.List.{filter}
use Rattle.import_graph.specs.Packages.{counts, missing_at}
use Rattle.import_graph.proofs.fault.push_lines.Given as goal

abbrev pub invariant-loop-line : goal.invariant-loop-line
invariant-loop-line l = l.places.items ≡ l.initial.places.items ++ flat_map (missing_at l.names l.n) (filter counts (take l.line-index l.lines))
