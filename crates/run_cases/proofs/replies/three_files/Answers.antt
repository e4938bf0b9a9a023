use Rattle.std.proofs.Common.{refl, arith, codes}
use Rattle.gv_base.proofs.PathFacts.{path-of_segment}
use Rattle.run_cases.proofs.replies.three_files.Goals as goal

pub put-requires : goal.put-requires
put-requires g = path-of_segment (codes "a.go") refl (omega arith) (omega arith)

pub put-requires-2 : goal.put-requires-2
put-requires-2 g = path-of_segment (codes "b.go") refl (omega arith) (omega arith)

pub put-requires-3 : goal.put-requires-3
put-requires-3 g = path-of_segment (codes "c.go") refl (omega arith) (omega arith)
