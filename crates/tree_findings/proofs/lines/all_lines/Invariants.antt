use Rattle.std.proofs.Common.{◌≡◌, take}
use Rattle.tree_findings.specs.Lines.{all_lines}
use Rattle.tree_findings.proofs.lines.all_lines.Given as goal

abbrev pub invariant-loop-k : goal.invariant-loop-k
invariant-loop-k l = l.lines.items ≡ all_lines (take l.k l.packages) (take l.k l.found)
