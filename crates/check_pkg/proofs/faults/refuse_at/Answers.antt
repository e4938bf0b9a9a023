use Rattle.std.proofs.Common.{sym, ap, ◌∙◌}
use Rattle.mark_walk.specs.Asks.{filled}
use Rattle.typed_marks.specs.Meanings.{Quiet}
use Rattle.typed_marks.specs.States.{so_far}
use Rattle.unit_read.specs.Subjects.{unit_of}
use Rattle.check_pkg.specs.Faults.{fault_in, spot, fault_offset, fault_place}
use Rattle.check_pkg.proofs.FaultLemmas.{gains_fault, gains_no_fault}
use Rattle.check_pkg.proofs.faults.refuse_at.Goals as goal

pub returns-in_ok-push : goal.returns-in_ok-push
returns-in_ok-push c =
    let u = unit_of c.args.u.now in
    let p = c.args.p in
    let at = c.args.item.node in
    gains_fault (fault_in (filled Quiet (so_far c.args.s.now) c.args.item)) (fault_place u p at) c.in-Some.fault _ c.args.list.now.items c.push.new.self.items
    (sym c.fault_of.ensures ∙ c.in-Some.is)
    (ap (spot p.file) (c.in_ok-offset.ensures ∙ ap (λ value. fault_offset u p at value c.in-Some.fault) c.requires.value))
    c.in_ok-push.ensures.items

pub returns-in_default : goal.returns-in_default
returns-in_default c =
    gains_no_fault (fault_in (filled Quiet (so_far c.args.s.now) c.args.item)) (fault_place (unit_of c.args.u.now) c.args.p c.args.item.node) c.args.list.now.items
    (sym c.fault_of.ensures ∙ c.in_default.is)
