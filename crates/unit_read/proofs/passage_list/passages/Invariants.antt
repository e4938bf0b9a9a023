use Rattle.std.proofs.Common.{◌≡◌, ◌++◌, length}
use Rattle.package_objects.specs.Declares.{gather}
use Rattle.unit_read.specs.Passages.{nth_file, file_copies}
use Rattle.unit_read.proofs.passage_list.passages.Given as goal

abbrev pub invariant-loop-file : goal.invariant-loop-file
invariant-loop-file l = l.out.items ≡ gather (nth_file l.trees) l.file

abbrev pub invariant-loop-file-2 : goal.invariant-loop-file-2
invariant-loop-file-2 l = l.out.items ≡ gather (nth_file l.trees) (length l.trees) ++ gather (file_copies l.trees) l.file
