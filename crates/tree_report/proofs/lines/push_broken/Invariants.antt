use Rattle.std.proofs.Common.{◌≡◌, ◌++◌, take}
use Rattle.tree_report.specs.Lines.{broken_lines}
use Rattle.tree_report.proofs.lines.push_broken.Given as goal

abbrev pub invariant-loop-file : goal.invariant-loop-file
invariant-loop-file l = l.lines.items ≡ l.initial.lines.items ++ broken_lines l.verdicts l.path (take l.file-index l.files)
