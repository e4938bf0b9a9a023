use Rattle.std.proofs.Common.{◌≡◌, ◌++◌, length, All}
use Rattle.analysis_core.specs.JsonReplies.{json_behind}
use Rattle.report_text.specs.Standing.{IsHand}
use Rattle.report_text.specs.ReplyStanding.{SaidStands}
use Rattle.report_text.proofs.json_parts.push_behind.Given as goal

abbrev pub invariant-loop-next : goal.invariant-loop-next
invariant-loop-next l =
    IsHand l.files l.hand
    × All (SaidStands l.files) l.rest
    × (l.out.items ++ json_behind l.files l.last l.rest ≡ l.fn.out.items ++ json_behind l.files l.first l.said)

abbrev pub decreases-loop-next : goal.decreases-loop-next
decreases-loop-next l = length l.rest
