use Rattle.std.proofs.Common.{◌≡◌, ◌++◌, ℕ, take}
use Rattle.go_tree.specs.Forest.{Forest}
use Rattle.scopes.specs.Regions.{leaf_names}
use Rattle.scopes.specs.Walk.{Shows}
use Rattle.scopes.proofs.walk.push_leaves.Given as goal

abbrev pub invariant-loop-part : goal.invariant-loop-part
invariant-loop-part l = (m : ℕ) (f : Forest) → Shows l.nodes m (take l.part-index l.parts) f → l.names.items ≡ l.fn.names.items ++ leaf_names m f
