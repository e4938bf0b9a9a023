use Rattle.std.proofs.Common.{◌≡◌, ◌++◌, map, take}
use Rattle.tree_findings.specs.Lines.{line_in_tree}
use Rattle.tree_findings.proofs.lines.push_lines.Given as goal

abbrev pub invariant-loop-diagnostic : goal.invariant-loop-diagnostic
invariant-loop-diagnostic l = l.lines.items ≡ l.fn.lines.items ++ map (line_in_tree l.pack.path l.pack.files) (take l.diagnostic-index l.found)
