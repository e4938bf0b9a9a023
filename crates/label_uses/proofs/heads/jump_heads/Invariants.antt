use Rattle.label_uses.specs.Heads.{AreHeads}
use Rattle.label_uses.specs.Labels.{is_jump}
use Rattle.label_uses.proofs.heads.jump_heads.Given as goal

abbrev pub invariant-loop-p : goal.invariant-loop-p
invariant-loop-p l = AreHeads is_jump l.nodes l.p l.heads
