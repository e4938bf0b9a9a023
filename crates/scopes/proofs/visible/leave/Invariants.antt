use Rattle.std.proofs.Common.{vec_len}
use Rattle.scopes.specs.Visible.{Taken}
use Rattle.scopes.proofs.visible.leave.Given as goal

abbrev pub invariant-loop-stack : goal.invariant-loop-stack
invariant-loop-stack l = Taken l.declarations l.at l.fn.stack.items l.stack.items

abbrev pub decreases-loop-stack : goal.decreases-loop-stack
decreases-loop-stack l = vec_len l.stack
