use Rattle.label_uses.specs.declared.answer.Label.{Label}
use Rattle.label_uses.specs.Labels.{IsLabel}
use Rattle.label_uses.specs.Parents.{at}
use Rattle.label_uses.specs.Rows.{AreGathered, IsLabelRow, HasName}
use Rattle.label_uses.specs.Tables.{found}
use Rattle.label_uses.proofs.rows.labels_of.Given as goal

abbrev pub invariant-loop-n : goal.invariant-loop-n
invariant-loop-n l =
    AreGathered (λ (x : Label). x.name) (IsLabelRow (IsLabel l.bytes l.tree) (at l.functions) (found l.table) l.used) (λ n. HasName (IsLabel l.bytes l.tree n)) l.n l.labels.items
