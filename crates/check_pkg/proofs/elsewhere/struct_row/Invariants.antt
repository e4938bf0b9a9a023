use Rattle.object_order.specs.Spots.{place}
use Rattle.unit_read.specs.Subjects.{full_of}
use Rattle.check_pkg.specs.Elsewhere.{struct_elsewhere, IsFlagRow}
use Rattle.check_pkg.proofs.elsewhere.struct_row.Given as goal

abbrev pub invariant-loop-node : goal.invariant-loop-node
invariant-loop-node l = IsFlagRow (λ n. struct_elsewhere (full_of l.u) (place l.file n)) l.row.items l.node
