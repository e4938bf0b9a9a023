use Rattle.std.proofs.Common.{◌≡◌, length}
use Rattle.std.specs.Cmp.Lexicographic.{slice_cmp}
use Rattle.analysis_core.specs.FoundOrder.{edit_order}
use Rattle.analysis_core.proofs.order.compare_edit_lists.Given as goal

abbrev pub invariant-loop-right : goal.invariant-loop-right
invariant-loop-right l = slice_cmp edit_order l.left l.right ≡ slice_cmp edit_order l.a l.b

abbrev pub decreases-loop-right : goal.decreases-loop-right
decreases-loop-right l = length l.right
