use Rattle.unit_rows.specs.Grouping.{AreGroups}
use Rattle.unit_rows.proofs.methods.groups_of.Given as goal

abbrev pub invariant-loop-i : goal.invariant-loop-i
invariant-loop-i l = AreGroups l.kin.items l.owners l.methods l.i l.groups.items
