use Rattle.std.proofs.Common.{◌≡◌, ◌++◌, take, flat_map}
use Rattle.std.specs.List.{filter}
use Rattle.import_graph.specs.Packages.{counts}
use Rattle.tree_report.specs.Lines.{missing_lines_at}
use Rattle.tree_report.proofs.lines.push_imports.Given as goal

abbrev pub invariant-loop-line : goal.invariant-loop-line
invariant-loop-line l = l.lines.items ≡ l.initial.lines.items ++ flat_map (missing_lines_at l.paths l.path l.file) (filter counts (take l.line-index l.imports))
