use Rattle.std.proofs.Common.{◌≡◌, ◌+◌, ◌≤◌, length}
use Rattle.analysis_core.specs.Replies.{applied}
use Rattle.report_text.proofs.whole.count_applied.Given as goal

abbrev pub invariant-loop-rest : goal.invariant-loop-rest
invariant-loop-rest l = (l.count + applied l.rest ≡ applied l.choices) × (l.count + length l.rest ≤ length l.choices)

abbrev pub decreases-loop-rest : goal.decreases-loop-rest
decreases-loop-rest l = length l.rest
