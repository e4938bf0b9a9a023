use Rattle.std.proofs.Common.{◌≡◌, ◌+◌, ◌≤◌, length}
use Rattle.analysis_core.specs.Replies.{fix_spots}
use Rattle.report_text.proofs.reply_stand.count_fixes.Given as goal

abbrev pub invariant-loop-rest : goal.invariant-loop-rest
invariant-loop-rest l = (l.count + length (fix_spots l.rest) ≡ length (fix_spots l.found)) × (l.count + length l.rest ≤ length l.found)

abbrev pub decreases-loop-rest : goal.decreases-loop-rest
decreases-loop-rest l = length l.rest
