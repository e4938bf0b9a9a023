use Rattle.std.proofs.Common.{◌≤◌, length}
use Rattle.label_uses.specs.Parents.{AreFilled}
use Rattle.label_uses.proofs.functions.functions_of.Given as goal

abbrev pub invariant-loop-left : goal.invariant-loop-left
invariant-loop-left l = record { filled : AreFilled l.nodes l.left l.functions.items; high : l.left ≤ length l.nodes }

abbrev pub decreases-loop-left : goal.decreases-loop-left
decreases-loop-left l = l.left
