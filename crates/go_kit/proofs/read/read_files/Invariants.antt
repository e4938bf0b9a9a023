use Rattle.std.proofs.Common.{take, map}
use Rattle.action_graph.specs.Judging.{text_of}
use Rattle.go_kit.specs.Reading.{AreFilesOf}
use Rattle.go_kit.proofs.read.read_files.Given as goal

abbrev pub invariant-loop-file : goal.invariant-loop-file
invariant-loop-file l = AreFilesOf (map text_of (take l.file-index l.files)) l.trees.items
