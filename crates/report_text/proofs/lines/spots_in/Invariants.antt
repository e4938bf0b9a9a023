use Rattle.std.proofs.Common.{◌≡◌, take}
use Rattle.analysis_core.specs.Replies.{fix_spots}
use Rattle.report_text.specs.ReplyStanding.{spots_of}
use Rattle.report_text.proofs.lines.spots_in.Given as goal

abbrev pub invariant-loop-line : goal.invariant-loop-line
invariant-loop-line l = spots_of l.spots.items ≡ fix_spots (take l.line-index l.found)
