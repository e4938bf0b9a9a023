use Rattle.std.proofs.Common.{take}
use Rattle.std.specs.List.{filter}
use Rattle.import_graph.specs.Packages.{counts}
use Rattle.import_graph.specs.Tables.{FindsMore}
use Rattle.import_graph.proofs.imports.find_lines.Given as goal

abbrev pub invariant-loop-line : goal.invariant-loop-line
invariant-loop-line l = FindsMore l.names (filter counts (take l.line-index l.lines)) l.initial.found.items l.found.items
