use Rattle.file_flow.specs.Told.{AreOwners}
use Rattle.file_flow.proofs.told.owners_of.Given as goal

abbrev pub invariant-loop-l : goal.invariant-loop-l
invariant-loop-l l = AreOwners l.tree l.l l.owners.items
