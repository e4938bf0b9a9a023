use Rattle.std.proofs.Common.{ℕ, List}
use Rattle.unit_read.specs.Index.{found}
use Rattle.check_pkg.specs.ImportLists.{IsLeast}
use Rattle.check_pkg.proofs.import_refusals.least_nodes.Given as goal

abbrev pub invariant-loop-declared : goal.invariant-loop-declared
invariant-loop-declared l = (q : List ℕ) → IsLeast l.names l.declared-index q (found l.firsts q)
