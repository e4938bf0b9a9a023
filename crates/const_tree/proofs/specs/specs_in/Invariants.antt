use Rattle.std.proofs.Common.{◌≡◌}
use Rattle.package_objects.specs.Declares.{gather}
use Rattle.const_tree.specs.Constants.{specs_at}
use Rattle.const_tree.proofs.specs.specs_in.Given as goal

abbrev pub invariant-loop-n : goal.invariant-loop-n
invariant-loop-n l = l.out.items ≡ gather (specs_at l.nodes) l.n
