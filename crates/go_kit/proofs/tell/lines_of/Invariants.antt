use Rattle.std.proofs.Common.{◌≡◌, take, map}
use Rattle.action_graph.specs.Judging.{line_of}
use Rattle.go_kit.proofs.tell.lines_of.Given as goal

abbrev pub invariant-loop-refusal : goal.invariant-loop-refusal
invariant-loop-refusal l = l.lines.items ≡ map line_of (take l.refusal-index l.refused)
