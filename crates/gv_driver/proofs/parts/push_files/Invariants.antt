use Rattle.std.proofs.Common.{◌≡◌, ◌++◌, drop}
use Rattle.action_graph.specs.Nodes.{pairs}
use Rattle.gv_driver.proofs.parts.push_files.Given as goal

abbrev pub invariant-loop-file : goal.invariant-loop-file
invariant-loop-file l = l.parts ++ pairs (drop l.file-index l.files) ≡ l.initial.parts ++ pairs l.files
