use Rattle.std.proofs.Common.{◌≡◌, ◌+◌, ◌++◌, length, All}
use Rattle.analysis_core.specs.Replies.{fix_lines}
use Rattle.report_text.specs.Standing.{IsHand}
use Rattle.report_text.specs.ReplyStanding.{spots_of, Earlier}
use Rattle.report_text.proofs.lines.push_fixes.Given as goal

abbrev pub invariant-loop-choice : goal.invariant-loop-choice
invariant-loop-choice l =
    IsHand l.files l.hand
    × (l.n + length l.rest ≡ length l.choices)
    × All (Earlier (length l.spots)) l.rest
    × (l.out.items ++ fix_lines l.files (spots_of l.spots) l.n l.rest ≡ l.fn.out.items ++ fix_lines l.files (spots_of l.spots) 0 l.choices)

abbrev pub decreases-loop-choice : goal.decreases-loop-choice
decreases-loop-choice l = length l.rest
