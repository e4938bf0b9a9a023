use Rattle.node_values.specs.Parents.{at}
use Rattle.check_pkg.specs.Elsewhere.{IsFlagRow}
use Rattle.check_pkg.specs.Leading.{has_names_at}
use Rattle.check_pkg.proofs.leading.parts_row.Given as goal

abbrev pub invariant-loop-n : goal.invariant-loop-n
invariant-loop-n l = IsFlagRow (λ n. has_names_at l.nodes (at l.parents n)) l.row.items l.n
