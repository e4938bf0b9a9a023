use Rattle.std.proofs.Common.{◌≡◌, ◌++◌, drop}
use Rattle.tree_report.specs.Lines.{lines_from, error_lines}
use Rattle.tree_report.proofs.states.error_lines.Given as goal

abbrev pub invariant-loop-k : goal.invariant-loop-k
invariant-loop-k l =
    l.lines.items ++ lines_from l.found.heads.now l.found.verdicts.now l.found.packages.now l.found.outcomes.now l.k (drop l.k l.found.packages.now)
    ≡ error_lines l.found.heads.now l.found.verdicts.now l.found.packages.now l.found.outcomes.now
