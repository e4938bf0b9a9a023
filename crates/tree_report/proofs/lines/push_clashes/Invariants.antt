use Rattle.std.proofs.Common.{◌≡◌, ◌++◌, take, map}
use Rattle.tree_report.specs.Lines.{clash_line}
use Rattle.tree_report.proofs.lines.push_clashes.Given as goal

abbrev pub invariant-loop-at : goal.invariant-loop-at
invariant-loop-at l = l.lines.items ≡ l.initial.lines.items ++ map (clash_line l.path) (take l.at-index l.places)
