use Rattle.label_uses.specs.Heads.{AreHeads}
use Rattle.label_uses.specs.Labels.{is_label}
use Rattle.label_uses.proofs.heads.label_heads.Given as goal

abbrev pub invariant-loop-p : goal.invariant-loop-p
invariant-loop-p l = AreHeads is_label l.nodes l.p l.heads
