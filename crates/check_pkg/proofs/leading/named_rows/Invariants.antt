use Rattle.check_pkg.specs.Leading.{AreNamedRows}
use Rattle.check_pkg.proofs.leading.named_rows.Given as goal

abbrev pub invariant-loop-k : goal.invariant-loop-k
invariant-loop-k l = AreNamedRows l.u.trees.now l.k l.rows.items
