use Rattle.typed_tree.specs.Basics.{HasKinds}
use Rattle.typed_tree.proofs.predeclare.add_basics.Given as goal

abbrev pub invariant-loop-kind : goal.invariant-loop-kind
invariant-loop-kind l = HasKinds l.t l.kind-index
