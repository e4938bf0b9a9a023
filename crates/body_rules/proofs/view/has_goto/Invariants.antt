use Rattle.std.proofs.Common.{ℕ, ◌<◌}
use Rattle.node_values.specs.Trees.{IsOfKind}
use Rattle.body_rules.specs.Kinds.{is_goto}
use Rattle.body_rules.proofs.view.has_goto.Given as goal

abbrev pub invariant-loop-n : goal.invariant-loop-n
invariant-loop-n l = (m : ℕ) → m < l.n → IsOfKind is_goto l.nodes m → ⊥
