use Rattle.std.proofs.Common.{◌≡◌, ◌++◌, take}
use Rattle.tree_report.specs.Lines.{missing_lines}
use Rattle.tree_report.proofs.lines.push_all_missing.Given as goal

abbrev pub invariant-loop-file : goal.invariant-loop-file
invariant-loop-file l = l.lines.items ≡ l.initial.lines.items ++ missing_lines l.heads l.paths l.path (take l.file-index l.files)
