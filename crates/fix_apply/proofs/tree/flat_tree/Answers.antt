use Rattle.std.proofs.Common.{◌≡◌, length, refl, subst, arith}
use Rattle.fix_apply.specs.Trees.{IsFlat}
use Rattle.fix_apply.proofs.TreeSteps.{flat_tree}
use Rattle.fix_apply.proofs.tree.flat_tree.Goals as goal

pub returns-clause-tree : goal.returns-clause-tree
returns-clause-tree c =
    let slots = c.args.slots.now in
    let all : c.loop-slot.slot-index ≡ length slots = omega (arith, c.loop-slot-test.false) in
    flat_tree slots c.loop-slot.nodes.items (length slots) refl (subst (IsFlat slots c.loop-slot.nodes.items (length slots)) all c.loop-slot.invariant)
