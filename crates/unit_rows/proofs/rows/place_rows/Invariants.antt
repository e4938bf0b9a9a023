use Rattle.unit_read.specs.Rows.{AreRows}
use Rattle.unit_rows.specs.Rows.{place_in}
use Rattle.unit_rows.proofs.rows.place_rows.Given as goal

abbrev pub invariant-loop-file : goal.invariant-loop-file
invariant-loop-file l = AreRows (λ f. place_in) l.trees l.rows.items l.file
