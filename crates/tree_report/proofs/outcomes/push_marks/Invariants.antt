use Rattle.std.proofs.Common.{◌≡◌, ◌++◌, take, map}
use Rattle.tree_report.specs.Lines.{mark_line}
use Rattle.tree_report.proofs.outcomes.push_marks.Given as goal

abbrev pub invariant-loop-mark : goal.invariant-loop-mark
invariant-loop-mark l = l.lines.items ≡ l.initial.lines.items ++ map (mark_line l.path l.files) (take l.mark-index l.marks)
