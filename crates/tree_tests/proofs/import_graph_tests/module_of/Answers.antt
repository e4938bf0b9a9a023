use Rattle.std.proofs.Common.{refl, arith, codes}
use Rattle.gv_base.proofs.PathFacts.{path-of_segment}
use Rattle.tree_tests.proofs.import_graph_tests.module_of.Goals as goal

pub put-requires : goal.put-requires
put-requires g = path-of_segment (codes "go.mod") refl (omega arith) (omega arith)
