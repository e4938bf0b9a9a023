use Rattle.file_uses.specs.Assigned.{AreMarked}
use Rattle.file_uses.proofs.assigned.mark_assigned.Given as goal

abbrev pub invariant-loop-at : goal.invariant-loop-at
invariant-loop-at l = AreMarked l.names l.first l.once l.at l.fn.flags.items l.flags.items
