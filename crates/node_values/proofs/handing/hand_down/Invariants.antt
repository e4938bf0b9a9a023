use Rattle.std.proofs.Common.{◌≤◌, length}
use Rattle.node_values.specs.Handed.{AreHandedFrom}
use Rattle.node_values.specs.Parents.{at}
use Rattle.node_values.proofs.handing.hand_down.Given as goal

abbrev pub invariant-loop-left : goal.invariant-loop-left
invariant-loop-left g l = record { filled : AreHandedFrom (g.R.Hands.rule l.rule) (g.R.Hands.top l.rule) l.nodes (at l.parents) l.left l.found.items; high : l.left ≤ length l.nodes }

abbrev pub decreases-loop-left : goal.decreases-loop-left
decreases-loop-left g l = l.left
