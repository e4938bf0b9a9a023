use Rattle.std.proofs.Common.{◌≡◌, ◌++◌, length}
use Rattle.analysis_core.specs.JsonReplies.{found_said}
use Rattle.report_text.proofs.said.add_found.Given as goal

abbrev pub invariant-loop-rest : goal.invariant-loop-rest
invariant-loop-rest l = l.said.items ++ found_said (length l.said.items) l.rest ≡ l.fn.said.items ++ found_said (length l.fn.said.items) l.found

abbrev pub decreases-loop-rest : goal.decreases-loop-rest
decreases-loop-rest l = length l.rest
