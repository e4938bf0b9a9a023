use Rattle.std.proofs.Common.{◌≡◌, drop, length, ◌+◌}
use Rattle.node_values.specs.Filled.{values, values_from}
use Rattle.findings.specs.Passes.{unit_in, marks_in}
use Rattle.vet_words.specs.Quiet.{quiet_rule, quiet_nodes}
use Rattle.vet_words.proofs.quiet.quiet_row.Given as goal

abbrev pub invariant-loop-n : goal.invariant-loop-n
invariant-loop-n l =
    (values_from (quiet_rule (unit_in l.p) (marks_in l.p) l.file) l.row.items (drop l.n l.nodes) ≡ quiet_nodes (unit_in l.p) (marks_in l.p) l.file) × (length l.row.items ≡ l.n)
