use Rattle.shadowed_results.specs.Tables.{found, result_name, AreKept, of_nodes}
use Rattle.shadowed_results.proofs.table.results_of.Given as goal

abbrev pub invariant-loop-n : goal.invariant-loop-n
invariant-loop-n l = AreKept (result_name l.bytes l.tree l.stages) (of_nodes l.functions) l.n (found l.table)
