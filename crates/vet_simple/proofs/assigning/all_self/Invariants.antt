use Rattle.std.proofs.Common.{◌≡◌, true}
use Rattle.package_objects.specs.Declares.{items}
use Rattle.unit_read.specs.Units.{nodes_at}
use Rattle.findings.specs.Passes.{unit_in, marks_in}
use Rattle.vet_simple.specs.Assigning.{is_self_pair, all_below}
use Rattle.vet_simple.proofs.assigning.all_self.Given as goal

abbrev pub invariant-loop-i : goal.invariant-loop-i
invariant-loop-i l =
    all_below (is_self_pair (unit_in l.p) (marks_in l.p) l.s.file (items (nodes_at (unit_in l.p) l.s.file) l.s.left) (items (nodes_at (unit_in l.p) l.s.file) l.s.right)) l.i ≡ true
