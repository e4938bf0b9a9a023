use Rattle.std.proofs.Common.{◌≡◌, ◌++◌, take}
use Rattle.tree_report.specs.Lines.{blocked_lines}
use Rattle.tree_report.proofs.outcomes.push_blocked.Given as goal

abbrev pub invariant-loop-q : goal.invariant-loop-q
invariant-loop-q l = l.lines.items ≡ l.initial.lines.items ++ blocked_lines l.packages l.outcomes l.path (take l.q-index l.imports)
