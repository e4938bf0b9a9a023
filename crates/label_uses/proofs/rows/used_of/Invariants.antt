use Rattle.label_uses.specs.Rows.{AreUsed}
use Rattle.label_uses.proofs.rows.used_of.Given as goal

abbrev pub invariant-loop-jump : goal.invariant-loop-jump
invariant-loop-jump l = AreUsed l.jumps l.jump-index l.count l.used.items
