use Rattle.label_uses.specs.Labels.{IsLabel}
use Rattle.label_uses.specs.Parents.{at}
use Rattle.label_uses.specs.Tables.{found, AreFirst}
use Rattle.label_uses.proofs.table.first_labels.Given as goal

abbrev pub invariant-loop-n : goal.invariant-loop-n
invariant-loop-n l = AreFirst (IsLabel l.bytes l.tree) (at l.functions) l.n (found l.table)
