use Rattle.std.proofs.Common.{refl, arith, codes}
use Rattle.gv_base.proofs.PathFacts.{path-of_segment}
use Rattle.leaf_cases.proofs.base.change.Goals as goal

pub put-requires : goal.put-requires
put-requires g = path-of_segment (codes "main.go") refl (omega arith) (omega arith)

pub put-requires-in-text : goal.put-requires-in-text
put-requires-in-text g = path-of_segment (codes "main.go") refl (omega arith) (omega arith)

pub put-requires-in-abel : goal.put-requires-in-abel
put-requires-in-abel g = path-of_segment (codes "abel.go") refl (omega arith) (omega arith)
