use Rattle.std.proofs.Common.{◌↔◌, sym, subst}
use Rattle.std.specs.List.{Contains}
use Rattle.go_tree.specs.declared.tree.NodeRef.{NodeRef}
use Rattle.mark_walk.specs.Asks.{filled}
use Rattle.typed_marks.specs.Meanings.{Quiet}
use Rattle.typed_marks.specs.States.{so_far}
use Rattle.unit_read.specs.Subjects.{full_of}
use Rattle.check_pkg.specs.declared.late_rules.Late.{Late}
use Rattle.check_pkg.specs.Late.{RefusesLate}
use Rattle.check_pkg.proofs.late_rules.late_nodes.Goals as goal

pub returns-in_ok-list-in-InitialCycle : goal.returns-in_ok-list-in-InitialCycle
returns-in_ok-list-in-InitialCycle c =
    subst (λ (late : Late). (at : NodeRef) → Contains c.in_ok-list-in-InitialCycle.list.items at ↔ RefusesLate (full_of c.args.u.now) (filled Quiet (so_far c.args.s.now)) late at)
    (sym c.in-InitialCycle.is) c.in_ok-list-in-InitialCycle.ensures
