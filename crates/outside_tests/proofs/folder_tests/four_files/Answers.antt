use Rattle.std.proofs.Common.{refl, arith, codes}
use Rattle.gv_base.proofs.PathFacts.{path-of_segment}
use Rattle.outside_tests.proofs.folder_tests.four_files.Goals as goal

pub put-requires : goal.put-requires
put-requires g c = path-of_segment (codes "README.md") refl (omega arith) (omega arith)

pub put-requires-2 : goal.put-requires-2
put-requires-2 g c = path-of_segment (codes "a.go") refl (omega arith) (omega arith)

pub put-requires-3 : goal.put-requires-3
put-requires-3 g c = path-of_segment (codes "a_test.go") refl (omega arith) (omega arith)

pub put-requires-4 : goal.put-requires-4
put-requires-4 g c = path-of_segment (codes "go.mod") refl (omega arith) (omega arith)
