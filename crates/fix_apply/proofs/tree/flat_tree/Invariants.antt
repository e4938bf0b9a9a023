use Rattle.std.proofs.Common.{length}
use Rattle.fix_apply.specs.Trees.{IsFlat}
use Rattle.fix_apply.proofs.tree.flat_tree.Given as goal

abbrev pub invariant-loop-slot : goal.invariant-loop-slot
invariant-loop-slot l = IsFlat l.slots l.nodes.items (length l.slots) l.slot-index
