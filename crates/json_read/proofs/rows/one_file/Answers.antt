use Rattle.std.proofs.Common.{refl, arith, codes}
use Rattle.gv_base.proofs.PathFacts.{path-of_segment}
use Rattle.json_read.proofs.rows.one_file.Goals as goal

pub put-requires : goal.put-requires
put-requires c = path-of_segment (codes "a.go") refl (omega arith) (omega arith)
