use Rattle.std.proofs.Common.{◌≡◌, ◌++◌}
use Rattle.package_objects.specs.Declares.{items, gather}
use Rattle.unit_read.specs.Units.{nodes_at}
use Rattle.findings.specs.Passes.{unit_in, marks_in}
use Rattle.vet_simple.specs.Assigning.{nth_self, nth_fix}
use Rattle.vet_simple.proofs.assigning.report_pairs.Given as goal

abbrev pub invariant-loop-i : goal.invariant-loop-i
invariant-loop-i l =
    (l.found.items ≡ l.fn.found.items
    ++ gather (nth_self (unit_in l.p) (marks_in l.p) l.s.file (items (nodes_at (unit_in l.p) l.s.file) l.s.left) (items (nodes_at (unit_in l.p) l.s.file) l.s.right) l.fn.fix) l.i)
    × (l.first ≡ nth_fix l.fn.fix l.i)
