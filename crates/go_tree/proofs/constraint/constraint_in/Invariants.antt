use Rattle.std.proofs.Common.{◌≡◌, drop}
use Rattle.go_tree.specs.Constraints.{constraint_from}
use Rattle.go_tree.specs.declared.constraint.Comment.TheVariants.{Between}
use Rattle.go_tree.proofs.constraint.constraint_in.Given as goal

abbrev pub invariant-loop-at : goal.invariant-loop-at
invariant-loop-at l = constraint_from Between 0 l.front ≡ constraint_from l.state l.at (drop l.at l.front)
