use Rattle.label_uses.specs.declared.answer.Jump.{Jump}
use Rattle.label_uses.specs.Labels.{IsJump}
use Rattle.label_uses.specs.Parents.{at}
use Rattle.label_uses.specs.Rows.{AreGathered, IsJumpRow, HasName}
use Rattle.label_uses.specs.Tables.{found}
use Rattle.label_uses.proofs.rows.jumps_of.Given as goal

abbrev pub invariant-loop-n : goal.invariant-loop-n
invariant-loop-n l = AreGathered (λ (j : Jump). j.name) (IsJumpRow (IsJump l.bytes l.tree) (at l.functions) (found l.table)) (λ n. HasName (IsJump l.bytes l.tree n)) l.n l.jumps.items
