use Rattle.unit_read.specs.Environments.{ListsMembers}
use Rattle.unit_read.proofs.environment.all_members.Given as goal

abbrev pub invariant-loop-at : goal.invariant-loop-at
invariant-loop-at l = ListsMembers l.interfaces l.at l.rows.items
