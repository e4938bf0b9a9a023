use Rattle.std.proofs.Common.{◌≡◌, ◌++◌, ℕ, take}
use Rattle.go_tree.specs.Forest.{Forest}
use Rattle.scopes.specs.Regions.{names_of}
use Rattle.scopes.specs.Walk.{Shows, has_names}
use Rattle.scopes.proofs.walk.push_all_names_of.Given as goal

abbrev pub invariant-loop-part : goal.invariant-loop-part
invariant-loop-part l = (m : ℕ) (f : Forest) → Shows l.nodes m (take l.part-index l.parts) f → l.names.items ≡ l.fn.names.items ++ names_of (has_names l.bind) m f
