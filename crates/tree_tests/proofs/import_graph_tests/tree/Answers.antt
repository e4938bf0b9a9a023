use Rattle.std.proofs.Common.{refl, arith, codes}
use Rattle.gv_base.proofs.PathFacts.{path-of_segment}
use Rattle.tree_tests.proofs.Paths.{segment-of, path-of_two, path-of_three}
use Rattle.tree_tests.proofs.import_graph_tests.tree.Goals as goal

pub put-requires : goal.put-requires
put-requires g =
    path-of_two (codes "a/a.go") (codes "a") (codes "a.go") refl (segment-of (codes "a") refl (omega arith) refl)
    (segment-of (codes "a.go") refl (omega arith) refl) (omega arith)

pub put-requires-2 : goal.put-requires-2
put-requires-2 g =
    path-of_two (codes "a/c.go") (codes "a") (codes "c.go") refl (segment-of (codes "a") refl (omega arith) refl)
    (segment-of (codes "c.go") refl (omega arith) refl) (omega arith)

pub put-requires-3 : goal.put-requires-3
put-requires-3 g =
    path-of_two (codes "b/b.go") (codes "b") (codes "b.go") refl (segment-of (codes "b") refl (omega arith) refl)
    (segment-of (codes "b.go") refl (omega arith) refl) (omega arith)

pub put-requires-4 : goal.put-requires-4
put-requires-4 g = path-of_segment (codes "go.mod") refl (omega arith) (omega arith)

pub put-requires-5 : goal.put-requires-5
put-requires-5 g =
    path-of_three (codes "std/os/os.go") (codes "std") (codes "os") (codes "os.go") refl
    (segment-of (codes "std") refl (omega arith) refl) (segment-of (codes "os") refl (omega arith) refl)
    (segment-of (codes "os.go") refl (omega arith) refl) (omega arith)
