use Rattle.std.proofs.Common.{◌≡◌, ◌++◌, take, flat_map}
use Rattle.analysis_core.specs.Replies.{found_line}
use Rattle.report_text.specs.Standing.{IsHand}
use Rattle.report_text.proofs.lines.push_all_found.Given as goal

abbrev pub invariant-loop-line : goal.invariant-loop-line
invariant-loop-line l =
    IsHand l.files l.hand
    × (l.out.items ≡ l.fn.out.items ++ flat_map (found_line l.files) (take l.line-index l.found))
