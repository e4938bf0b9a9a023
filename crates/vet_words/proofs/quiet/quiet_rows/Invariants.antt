use Rattle.findings.specs.Passes.{unit_in, marks_in}
use Rattle.vet_words.specs.Quiet.{quiet_nodes}
use Rattle.vet_words.specs.InCode.{AreRowsOf}
use Rattle.vet_words.proofs.quiet.quiet_rows.Given as goal

abbrev pub invariant-loop-file : goal.invariant-loop-file
invariant-loop-file l = AreRowsOf (quiet_nodes (unit_in l.p) (marks_in l.p)) l.rows.items l.file
