use Rattle.flow.specs.Around.{AreGiven}
use Rattle.flow.proofs.around.give.Given as goal

abbrev pub invariant-loop-i : goal.invariant-loop-i
invariant-loop-i l = AreGiven l.tree l.p l.node l.around l.i l.initial.table.items l.table.items
