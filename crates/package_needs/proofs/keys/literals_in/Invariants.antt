use Rattle.object_order.specs.Views.{world_of}
use Rattle.package_needs.proofs.LiteralLemmas.{Typed}
use Rattle.package_needs.proofs.keys.literals_in.Given as goal

abbrev pub invariant-loop-left : goal.invariant-loop-left
invariant-loop-left l = Typed (world_of l.view) l.view.trees.now l.file l.types.items l.count l.left

abbrev pub decreases-loop-left : goal.decreases-loop-left
decreases-loop-left l = l.left
