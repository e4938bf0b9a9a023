use Rattle.std.proofs.Common.{◌≡◌, take, map}
use Rattle.analysis_core.specs.Replies.{file_numbered}
use Rattle.tree_report.proofs.texts.files_of.Given as goal

abbrev pub invariant-loop-number : goal.invariant-loop-number
invariant-loop-number l = l.list.items ≡ map (file_numbered l.files) (take l.number-index l.numbers)
