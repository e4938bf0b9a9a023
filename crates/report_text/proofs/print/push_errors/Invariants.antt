use Rattle.std.proofs.Common.{◌≡◌, ◌++◌, take, flat_map}
use Rattle.analysis_core.specs.Replies.{error_line}
use Rattle.report_text.specs.Standing.{IsHand}
use Rattle.report_text.proofs.print.push_errors.Given as goal

abbrev pub invariant-loop-error : goal.invariant-loop-error
invariant-loop-error l =
    IsHand l.files l.hand
    × (l.out.items ≡ l.fn.out.items ++ flat_map (error_line l.files) (take l.error-index l.errors))
