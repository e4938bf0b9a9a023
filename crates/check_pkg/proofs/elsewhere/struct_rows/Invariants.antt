use Rattle.unit_read.specs.Subjects.{full_of}
use Rattle.check_pkg.specs.Elsewhere.{struct_elsewhere, AreFlagRows}
use Rattle.check_pkg.proofs.elsewhere.struct_rows.Given as goal

abbrev pub invariant-loop-file : goal.invariant-loop-file
invariant-loop-file l = AreFlagRows (struct_elsewhere (full_of l.u)) l.u.trees.now l.rows.items l.file
