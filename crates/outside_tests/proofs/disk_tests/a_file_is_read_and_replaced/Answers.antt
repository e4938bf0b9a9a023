use Rattle.std.proofs.Common.{refl, arith, codes}
use Rattle.gv_base.proofs.PathFacts.{path-of_segment}
use Rattle.outside_tests.proofs.disk_tests.a_file_is_read_and_replaced.Goals as goal

pub write-requires : goal.write-requires
write-requires g c = path-of_segment (codes "a.go") refl (omega arith) (omega arith)
