use Rattle.std.proofs.Common.{◌≡◌, take}
use Rattle.tree_report.proofs.texts.shared_files.Given as goal

abbrev pub invariant-loop-file : goal.invariant-loop-file
invariant-loop-file l = l.list.items ≡ take l.file l.files
