use Rattle.mark_walk.specs.Asks.{filled}
use Rattle.typed_marks.specs.Meanings.{Quiet}
use Rattle.typed_marks.specs.declared.item.Stage.TheVariants.{Placed, Object}
use Rattle.typed_marks.specs.States.{so_far}
use Rattle.unit_read.specs.Subjects.{unit_of}
use Rattle.rule_words.specs.Asking.{item}
use Rattle.check_pkg.specs.Faults.{fault_in, fault_place}
use Rattle.check_pkg.specs.Items.{RefusesAt}
use Rattle.check_pkg.proofs.FaultLemmas.{gains_no_fault}
use Rattle.check_pkg.proofs.GainLemmas.{gains_then}
use Rattle.check_pkg.proofs.faults.refuse_node.Goals as goal

pub returns : goal.returns
returns c =
    let u = unit_of c.args.u.now in
    let marks = filled Quiet (so_far c.args.s.now) in
    gains_then (RefusesAt u marks c.args.block c.args.p c.args.node Placed) (RefusesAt u marks c.args.block c.args.p c.args.node Object) c.args.list.now.items c.refuse_at.new.list.items
    c.refuse_at-2.new.list.items c.in_ok-refuse_at.ensures c.in_ok-refuse_at-2.ensures

pub returns-then-are_quiet : goal.returns-then-are_quiet
returns-then-are_quiet c =
    let u = unit_of c.args.u.now in
    let marks = filled Quiet (so_far c.args.s.now) in
    let none = c.are_quiet.ensures.0 c.if-are_quiet.true in
    gains_then (RefusesAt u marks c.args.block c.args.p c.args.node Placed) (RefusesAt u marks c.args.block c.args.p c.args.node Object) c.args.list.now.items c.args.list.now.items c.args.list.now.items
    (gains_no_fault (fault_in (marks (item Placed c.args.block c.args.node))) (fault_place u c.args.p c.args.node) c.args.list.now.items none.0)
    (gains_no_fault (fault_in (marks (item Object c.args.block c.args.node))) (fault_place u c.args.p c.args.node) c.args.list.now.items none.1)
